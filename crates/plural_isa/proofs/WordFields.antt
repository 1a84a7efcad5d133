-- The fields of the word that a format makes, and the word that a format makes of a word's fields.
use Rattle.std.proofs.Common.{ℕ, ◌≡◌, ◌+◌, ◌*◌, ◌/◌, ◌%◌, ◌^◌, ◌<◌, ℤ, pos, negsuc, arith}
use Rattle.std.proofs.lemmas.Int.{ints}
use Rattle.std.proofs.lemmas.Bool.Decides.{nat_tests}
use Rattle.plural_isa.specs.Fields.{opcode, rd, funct3, rs1, rs2, funct7, signed}
use Rattle.plural_isa.specs.Encoding.{bits_of, r_word, i_word, s_word, b_word, u_word, j_word, IsWithin}

-- The bits of a number stand for the number.
pub signed-bits_of : (half : ℕ) (z : ℤ) → IsWithin half z → signed half (bits_of half z) ≡ z
signed-bits_of half (pos n) h = grind (arith, ints, nat_tests)
signed-bits_of half (negsuc n) h = grind (arith, ints, nat_tests)

-- A field is the bits of what it stands for.
pub bits_of-signed : (half n : ℕ) → n < 2 * half → bits_of half (signed half n) ≡ n
bits_of-signed half n h = grind (arith, ints, nat_tests)

-- The bits of a number in range are few.
pub bits_of_below : (half : ℕ) (z : ℤ) → IsWithin half z → bits_of half z < 2 * half
bits_of_below half (pos n) h = grind (arith, ints, nat_tests)
bits_of_below half (negsuc n) h = grind (arith, ints, nat_tests)

-- The fields of a word of the R format.
pub record RFields (w code f3 f7 a b c : ℕ) : Type 0 where
  pub code_is : opcode w ≡ code
  pub funct3_is : funct3 w ≡ f3
  pub funct7_is : funct7 w ≡ f7
  pub rd_is : rd w ≡ a
  pub rs1_is : rs1 w ≡ b
  pub rs2_is : rs2 w ≡ c

-- A word of the R format has the fields that it is made of.
pub r_fields : (code f3 f7 a b c : ℕ) → code < 128 → f3 < 8 → f7 < 128 → a < 32 → b < 32 → c < 32 → RFields (r_word code f3 f7 a b c) code f3 f7 a b c
r_fields code f3 f7 a b c h0 h1 h2 h3 h4 h5 = record {
  code_is = omega arith;
  funct3_is = omega arith;
  funct7_is = omega arith;
  rd_is = omega arith;
  rs1_is = omega arith;
  rs2_is = omega arith;
}

-- A word is the one of the R format with its fields.
pub r_again : (w : ℕ) → w < 2 ^ 32 → r_word (opcode w) (funct3 w) (funct7 w) (rd w) (rs1 w) (rs2 w) ≡ w
r_again w h = omega arith

-- A word is the one of the B format with its fields.
pub b_again : (w : ℕ) → w < 2 ^ 32 → b_word (opcode w) (funct3 w) (rs1 w) (rs2 w) (w / 2 ^ 31 * 4096 + w / 2 ^ 7 % 2 * 2048 + w / 2 ^ 25 % 64 * 32 + w / 2 ^ 8 % 16 * 2) ≡ w
b_again w h = omega arith

-- A word is the one of the J format with its fields.
pub j_again : (w : ℕ) → w < 2 ^ 32 → j_word (opcode w) (rd w) (w / 2 ^ 31 * 1048576 + w / 2 ^ 12 % 256 * 4096 + w / 2 ^ 20 % 2 * 2048 + w / 2 ^ 21 % 1024 * 2) ≡ w
j_again w h = omega arith

-- The immediate of the S format has 12 bits.
pub s_imm : (w : ℕ) → w < 2 ^ 32 → w / 2 ^ 25 * 32 + w / 2 ^ 7 % 32 < 4096
s_imm w h = omega arith

-- A word is the one of the S format with its fields.
pub s_again : (w : ℕ) → w < 2 ^ 32 → s_word (opcode w) (funct3 w) (rs1 w) (rs2 w) (w / 2 ^ 25 * 32 + w / 2 ^ 7 % 32) ≡ w
s_again w h = omega arith

-- The immediate of the B format has 13 bits.
pub b_imm : (w : ℕ) → w < 2 ^ 32 → w / 2 ^ 31 * 4096 + w / 2 ^ 7 % 2 * 2048 + w / 2 ^ 25 % 64 * 32 + w / 2 ^ 8 % 16 * 2 < 8192
b_imm w h = omega arith

-- The immediate of the J format has 21 bits.
pub j_imm : (w : ℕ) → w < 2 ^ 32 → w / 2 ^ 31 * 1048576 + w / 2 ^ 12 % 256 * 4096 + w / 2 ^ 20 % 2 * 2048 + w / 2 ^ 21 % 1024 * 2 < 2097152
j_imm w h = omega arith

-- A word is the one of the I format with its fields.
pub i_again : (w : ℕ) → w < 2 ^ 32 → i_word (opcode w) (funct3 w) (rd w) (rs1 w) (w / 2 ^ 20) ≡ w
i_again w h = omega arith

-- The same, with the code and funct3 by other names.
pub at_i : (w code f3 field : ℕ) → w < 2 ^ 32 → opcode w ≡ code → funct3 w ≡ f3 → field ≡ w / 2 ^ 20 → i_word code f3 (rd w) (rs1 w) field ≡ w
at_i w code f3 field h e f g = omega arith

-- A word is the one of a shift by an amount with its fields.
pub at_shift : (w code f3 f7 : ℕ) → w < 2 ^ 32 → opcode w ≡ code → funct3 w ≡ f3 → funct7 w ≡ f7 → i_word code f3 (rd w) (rs1 w) (rs2 w + 32 * f7) ≡ w
at_shift w code f3 f7 h e f g = omega arith

-- A word is the one of the R format with these fields, if it has them.
pub at_r : (w code f3 f7 : ℕ) → w < 2 ^ 32 → opcode w ≡ code → funct3 w ≡ f3 → funct7 w ≡ f7 → r_word code f3 f7 (rd w) (rs1 w) (rs2 w) ≡ w
at_r w code f3 f7 h e f g = omega arith

-- A word is the one of a fence with its fields.
pub at_fence : (w : ℕ) → w < 2 ^ 32 → opcode w ≡ 0x0F → funct3 w ≡ 0 → 0x0F + 128 * ((w / 2 ^ 15 * 32 + w / 2 ^ 7 % 32) % 32) + 4096 * 0 + 32768 * ((w / 2 ^ 15 * 32 + w / 2 ^ 7 % 32) / 32) ≡ w
at_fence w h e f = omega arith

-- A word is the one of the U format with its fields.
pub at_u : (w code : ℕ) → w < 2 ^ 32 → opcode w ≡ code → u_word code (rd w) (w / 2 ^ 12) ≡ w
at_u w code h e = omega arith
