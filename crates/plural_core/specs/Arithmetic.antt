-- Numbers of 32 bits, as the integers that they stand for and back. The arithmetic is on integers; each result is
-- taken modulo 2^32 if the standard keeps the low 32 bits.
use Rattle.std.specs.Prelude.{ℕ, ◌+◌, ◌-◌, ◌*◌, ◌/◌, ◌%◌, ◌^◌, ℤ, pos, negsuc, ◌-ℤ◌, ◌*ℤ◌, Bool, nat_lt, int_lt, int_div, int_rem, if◌then◌else◌, ◌==◌}

-- The integer that a word stands for in two's complement.
abbrev pub signed : ℕ → ℤ
signed n = if nat_lt n 0x80000000 then pos n else pos n -ℤ pos 0x100000000

-- The word of an integer: the integer modulo 2^32.
abbrev pub word : ℤ → ℕ
word (pos n) = n % 0x100000000
word (negsuc n) = 0xffffffff - n % 0x100000000

-- An integer divided by 2^32, rounded down.
abbrev pub high : ℤ → ℤ
high (pos n) = pos (n / 0x100000000)
high (negsuc n) = negsuc (n / 0x100000000)

-- An integer divided by 2^k, rounded down.
abbrev pub shifted : ℤ → ℕ → ℤ
shifted (pos n) k = pos (n / 2 ^ k)
shifted (negsuc n) k = negsuc (n / 2 ^ k)

-- ADD, ADDI: the sum modulo 2^32. (RV32I 2.1, section 2.4.)
abbrev pub sum_of : ℕ → ℕ → ℕ
sum_of a b = (a + b) % 0x100000000

-- SUB: the difference modulo 2^32. (RV32I 2.1, section 2.4.)
abbrev pub difference_of : ℕ → ℕ → ℕ
difference_of a b = (a + (0x100000000 - b)) % 0x100000000

-- SLL, SLLI: the product with 2 to the low five bits of b, modulo 2^32. (RV32I 2.1, section 2.4.)
abbrev pub left_of : ℕ → ℕ → ℕ
left_of a b = a * 2 ^ (b % 32) % 0x100000000

-- SRL, SRLI: the quotient by 2 to the low five bits of b. (RV32I 2.1, section 2.4.)
abbrev pub right_of : ℕ → ℕ → ℕ
right_of a b = a / 2 ^ (b % 32)

-- SRA, SRAI: the signed quotient by 2 to the low five bits of b, rounded down. (RV32I 2.1, section 2.4.)
abbrev pub signed_right_of : ℕ → ℕ → ℕ
signed_right_of a b = word (shifted (signed a) (b % 32))

-- The number 1 for true and 0 for false.
abbrev pub flag : Bool → ℕ
flag b = if b then 1 else 0

-- SLT, BLT: whether a is below b as signed numbers. (RV32I 2.1, sections 2.4 and 2.5.)
abbrev pub is_below_signed : ℕ → ℕ → Bool
is_below_signed a b = int_lt (signed a) (signed b)

-- MUL: the low 32 bits of the product. (M 2.0, multiplication operations.)
abbrev pub product_of : ℕ → ℕ → ℕ
product_of a b = a * b % 0x100000000

-- MULH: the high 32 bits of the product, signed by signed. (M 2.0, multiplication operations.)
abbrev pub mulh_of : ℕ → ℕ → ℕ
mulh_of a b = word (high (signed a *ℤ signed b))

-- MULHSU: the high 32 bits of the product, signed a by unsigned b. (M 2.0, multiplication operations.)
abbrev pub mulhsu_of : ℕ → ℕ → ℕ
mulhsu_of a b = word (high (signed a *ℤ pos b))

-- MULHU: the high 32 bits of the product, unsigned by unsigned. (M 2.0, multiplication operations.)
abbrev pub mulhu_of : ℕ → ℕ → ℕ
mulhu_of a b = a * b / 0x100000000

-- DIV: the signed quotient rounded towards zero; all ones if b is 0. (M 2.0, division operations.)
abbrev pub div_of : ℕ → ℕ → ℕ
div_of a b = if b == 0 then 0xffffffff else word (int_div (signed a) (signed b))

-- REM: the signed remainder, with the sign of a; a itself if b is 0. (M 2.0, division operations.)
abbrev pub rem_of : ℕ → ℕ → ℕ
rem_of a b = if b == 0 then a else word (int_rem (signed a) (signed b))

-- DIVU: the unsigned quotient; all ones if b is 0. (M 2.0, division operations.)
abbrev pub divu_of : ℕ → ℕ → ℕ
divu_of a b = if b == 0 then 0xffffffff else a / b

-- REMU: the unsigned remainder; a itself if b is 0. (M 2.0, division operations.)
abbrev pub remu_of : ℕ → ℕ → ℕ
remu_of a b = if b == 0 then a else a % b
