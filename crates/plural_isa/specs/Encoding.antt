-- The word that spells an instruction, and which instructions have one.
use Rattle.std.specs.Prelude.{ℕ, ◌≡◌, ◌+◌, ◌-◌, ◌*◌, ◌/◌, ◌%◌, ◌<◌, suc, ℤ, pos, negsuc, neg_ℤ, ◌≤ℤ◌, ◌<ℤ◌, Bool, true, false}
use Rattle.plural_isa.specs.declared.instr.Instr.{Instr}
use Rattle.plural_isa.specs.declared.instr.Instr.TheVariants as instr
use Rattle.plural_isa.specs.declared.table.Operation.TheVariants as o
use Rattle.plural_isa.specs.Table.{code_of, funct3_of, funct7_of, whole_of, is_shift}

-- The bits of a number in two's complement, if its sign bit counts half.
abbrev pub bits_of : ℕ → ℤ → ℕ
bits_of half (pos n) = n
bits_of half (negsuc n) = 2 * half - suc n

-- A word of the R format.
abbrev pub r_word : (code f3 f7 rd rs1 rs2 : ℕ) → ℕ
r_word code f3 f7 rd rs1 rs2 = code + 128 * rd + 4096 * f3 + 32768 * rs1 + 1048576 * rs2 + 33554432 * f7

-- A word of the I format, with its field of 12 bits.
abbrev pub i_word : (code f3 rd rs1 field : ℕ) → ℕ
i_word code f3 rd rs1 field = code + 128 * rd + 4096 * f3 + 32768 * rs1 + 1048576 * field

-- A word of the S format, with its field of 12 bits.
abbrev pub s_word : (code f3 rs1 rs2 field : ℕ) → ℕ
s_word code f3 rs1 rs2 field = r_word code f3 (field / 32) (field % 32) rs1 rs2

-- A word of the B format, with its field of 13 bits, of which the last is 0.
abbrev pub b_word : (code f3 rs1 rs2 field : ℕ) → ℕ
b_word code f3 rs1 rs2 field =
    r_word code f3 (field / 4096 * 64 + field / 32 % 64) (field / 2 % 16 * 2 + field / 2048 % 2) rs1 rs2

-- A word of the U format, with its field of 20 bits.
abbrev pub u_word : (code rd field : ℕ) → ℕ
u_word code rd field = code + 128 * rd + 4096 * field

-- A word of the J format, with its field of 21 bits, of which the last is 0.
abbrev pub j_word : (code rd field : ℕ) → ℕ
j_word code rd field =
    u_word code rd (field / 1048576 * 524288 + field / 2 % 1024 * 512 + field / 2048 % 2 * 256 + field / 4096 % 256)

-- The word of an instruction: the fixed fields of its operation's row, and its own fields.
abbrev pub word_of : Instr → ℕ
word_of (instr.Lui rd imm) = u_word (code_of o.Lui) rd imm
word_of (instr.Auipc rd imm) = u_word (code_of o.Auipc) rd imm
word_of (instr.Jal rd offset) = j_word (code_of o.Jal) rd (bits_of 1048576 offset)
word_of (instr.Jalr rd rs1 imm) = i_word (code_of o.Jalr) (funct3_of o.Jalr) rd rs1 (bits_of 2048 imm)
word_of (instr.Branch op rs1 rs2 offset) =
    b_word (code_of (o.Branch op)) (funct3_of (o.Branch op)) rs1 rs2 (bits_of 4096 offset)
word_of (instr.Load op rd rs1 imm) = i_word (code_of (o.Load op)) (funct3_of (o.Load op)) rd rs1 (bits_of 2048 imm)
word_of (instr.Store op rs1 rs2 imm) = s_word (code_of (o.Store op)) (funct3_of (o.Store op)) rs1 rs2 (bits_of 2048 imm)
word_of (instr.OpImm op rd rs1 imm) =
    i_word (code_of (o.Imm op)) (funct3_of (o.Imm op)) rd rs1 (bits_of 2048 imm + 32 * funct7_of (o.Imm op))
word_of (instr.Op op rd rs1 rs2) =
    r_word (code_of (o.Reg op)) (funct3_of (o.Reg op)) (funct7_of (o.Reg op)) rd rs1 rs2
word_of (instr.Fence fields) =
    code_of o.Fence + 128 * (fields % 32) + 4096 * funct3_of o.Fence + 32768 * (fields / 32)
word_of instr.Ecall = whole_of o.Ecall
word_of instr.Ebreak = whole_of o.Ebreak

-- z is from -half to half - 1.
abbrev pub IsWithin : ℕ → ℤ → Type 0
IsWithin half z = (neg_ℤ (pos half) ≤ℤ z) × (z <ℤ pos half)

-- The same, and z is even.
abbrev pub IsOffset : ℕ → ℤ → Type 0
IsOffset half z = (neg_ℤ (pos half) ≤ℤ z) × (z <ℤ pos half) × (bits_of half z % 2 ≡ 0)

-- z is a shift amount if the operation shifts, else an I immediate.
abbrev pub IsAmount : Bool → ℤ → Type 0
IsAmount true z = (pos 0 ≤ℤ z) × (z <ℤ pos 32)
IsAmount false z = IsWithin 2048 z

-- The immediate, offset or fields of an instruction are in their ranges.
abbrev pub Fits : Instr → Type 0
Fits (instr.Lui rd imm) = imm < 1048576
Fits (instr.Auipc rd imm) = imm < 1048576
Fits (instr.Jal rd offset) = IsOffset 1048576 offset
Fits (instr.Jalr rd rs1 imm) = IsWithin 2048 imm
Fits (instr.Branch op rs1 rs2 offset) = IsOffset 4096 offset
Fits (instr.Load op rd rs1 imm) = IsWithin 2048 imm
Fits (instr.Store op rs1 rs2 imm) = IsWithin 2048 imm
Fits (instr.OpImm op rd rs1 imm) = IsAmount (is_shift op) imm
Fits (instr.Op op rd rs1 rs2) = Unit {0}
Fits (instr.Fence fields) = fields < 4194304
Fits instr.Ecall = Unit {0}
Fits instr.Ebreak = Unit {0}

-- Its registers are numbers below 32, as every register of the code is.
abbrev pub HasRegisters : Instr → Type 0
HasRegisters (instr.Lui rd imm) = rd < 32
HasRegisters (instr.Auipc rd imm) = rd < 32
HasRegisters (instr.Jal rd offset) = rd < 32
HasRegisters (instr.Jalr rd rs1 imm) = (rd < 32) × (rs1 < 32)
HasRegisters (instr.Branch op rs1 rs2 offset) = (rs1 < 32) × (rs2 < 32)
HasRegisters (instr.Load op rd rs1 imm) = (rd < 32) × (rs1 < 32)
HasRegisters (instr.Store op rs1 rs2 imm) = (rs1 < 32) × (rs2 < 32)
HasRegisters (instr.OpImm op rd rs1 imm) = (rd < 32) × (rs1 < 32)
HasRegisters (instr.Op op rd rs1 rs2) = (rd < 32) × (rs1 < 32) × (rs2 < 32)
HasRegisters (instr.Fence fields) = Unit {0}
HasRegisters instr.Ecall = Unit {0}
HasRegisters instr.Ebreak = Unit {0}
