-- The fields of an instruction word of 32 bits, and the immediates that they spell: RV32I 2.1, "Base
-- Instruction Formats" and "Immediate Encoding Variants". Bits are named from 31, the highest, to 0.
use Rattle.std.specs.Prelude.{ℕ, ◌+◌, ◌*◌, ◌/◌, ◌%◌, ◌^◌, ℤ, pos, ◌-ℤ◌, nat_lt, if◌then◌else◌}

-- Bits 6:0.
abbrev pub opcode : ℕ → ℕ
opcode w = w % 128

-- Bits 11:7, the destination.
abbrev pub rd : ℕ → ℕ
rd w = w / 128 % 32

-- Bits 14:12.
abbrev pub funct3 : ℕ → ℕ
funct3 w = w / 4096 % 8

-- Bits 19:15, the first source.
abbrev pub rs1 : ℕ → ℕ
rs1 w = w / 32768 % 32

-- Bits 24:20, the second source, or a shift amount.
abbrev pub rs2 : ℕ → ℕ
rs2 w = w / 1048576 % 32

-- Bits 31:25.
abbrev pub funct7 : ℕ → ℕ
funct7 w = w / 33554432 % 128

-- What a number stands for in two's complement, if its sign bit counts half.
abbrev pub signed : ℕ → ℕ → ℤ
signed half n = if nat_lt n half then pos n else pos n -ℤ pos (2 * half)

-- The I immediate: bits 31:20, sign-extended.
abbrev pub imm_i : ℕ → ℤ
imm_i w = signed 2048 (w / 2 ^ 20)

-- The S immediate: bits 31:25 and 11:7, sign-extended.
abbrev pub imm_s : ℕ → ℤ
imm_s w = signed 2048 (w / 2 ^ 25 * 32 + w / 2 ^ 7 % 32)

-- The B immediate: bits 31, 7, 30:25 and 11:8, then a 0, sign-extended.
abbrev pub imm_b : ℕ → ℤ
imm_b w = signed 4096 (w / 2 ^ 31 * 4096 + w / 2 ^ 7 % 2 * 2048 + w / 2 ^ 25 % 64 * 32 + w / 2 ^ 8 % 16 * 2)

-- The U field: bits 31:12.
abbrev pub imm_u : ℕ → ℕ
imm_u w = w / 2 ^ 12

-- The J immediate: bits 31, 19:12, 20 and 30:21, then a 0, sign-extended.
abbrev pub imm_j : ℕ → ℤ
imm_j w =
    signed 1048576 (w / 2 ^ 31 * 1048576 + w / 2 ^ 12 % 256 * 4096 + w / 2 ^ 20 % 2 * 2048 + w / 2 ^ 21 % 1024 * 2)
