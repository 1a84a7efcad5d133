-- The instruction table of RV32I 2.1 and of the M extension 2.0, as the chapter "RV32/64G Instruction
-- Set Listings" of the RISC-V unprivileged specification lists it: a row has an opcode and the fields
-- that are fixed beside it, and a word has the row whose fixed fields are its own.
use Rattle.std.specs.Prelude.{ℕ, Bool, true, false, ◌&&◌, ◌==◌, List, [], ◌∷◌, Option, find, codes, bytes_eq}
use Rattle.plural_isa.specs.Fields.{opcode, funct3, funct7}
use Rattle.plural_isa.specs.declared.table.Operation.{Operation}
use Rattle.plural_isa.specs.declared.table.Operation.TheVariants.{Lui, Auipc, Jal, Jalr, Branch, Load, Store, Imm, Reg, Fence, Ecall, Ebreak}
use Rattle.plural_isa.specs.declared.table.Fixed.{Fixed}
use Rattle.plural_isa.specs.declared.table.Fixed.TheVariants.{OpcodeOnly, Funct3, Funct3And7, WholeWord}
use Rattle.plural_isa.specs.declared.instr.BranchOp.TheVariants.{Beq, Bne, Blt, Bge, Bltu, Bgeu}
use Rattle.plural_isa.specs.declared.instr.LoadOp.TheVariants.{Lb, Lh, Lw, Lbu, Lhu}
use Rattle.plural_isa.specs.declared.instr.StoreOp.TheVariants.{Sb, Sh, Sw}
use Rattle.plural_isa.specs.declared.instr.ImmOp.{ImmOp}
use Rattle.plural_isa.specs.declared.instr.ImmOp.TheVariants.{Addi, Slti, Sltiu, Xori, Ori, Andi, Slli, Srli, Srai}
use Rattle.plural_isa.specs.declared.instr.RegOp.TheVariants.{Add, Sub, Sll, Slt, Sltu, Xor, Srl, Sra, Or, And, Mul, Mulh, Mulhsu, Mulhu, Div, Divu, Rem, Remu}

-- A row: the opcode, what is fixed beside it (nothing, funct3, funct3 and funct7, or the whole word), and the
-- mnemonic's text.
pub record Row : Type 0 where
  pub code : ℕ
  pub fixed : Fixed
  pub text : List ℕ

abbrev row : ℕ → Fixed → List ℕ → Row
row c f t = record { code = c; fixed = f; text = t }

-- The row of each operation.
abbrev pub row_of : Operation → Row
row_of Lui = row 0x37 OpcodeOnly (codes "lui")
row_of Auipc = row 0x17 OpcodeOnly (codes "auipc")
row_of Jal = row 0x6F OpcodeOnly (codes "jal")
row_of Jalr = row 0x67 (Funct3 0) (codes "jalr")
row_of (Branch Beq) = row 0x63 (Funct3 0) (codes "beq")
row_of (Branch Bne) = row 0x63 (Funct3 1) (codes "bne")
row_of (Branch Blt) = row 0x63 (Funct3 4) (codes "blt")
row_of (Branch Bge) = row 0x63 (Funct3 5) (codes "bge")
row_of (Branch Bltu) = row 0x63 (Funct3 6) (codes "bltu")
row_of (Branch Bgeu) = row 0x63 (Funct3 7) (codes "bgeu")
row_of (Load Lb) = row 0x03 (Funct3 0) (codes "lb")
row_of (Load Lh) = row 0x03 (Funct3 1) (codes "lh")
row_of (Load Lw) = row 0x03 (Funct3 2) (codes "lw")
row_of (Load Lbu) = row 0x03 (Funct3 4) (codes "lbu")
row_of (Load Lhu) = row 0x03 (Funct3 5) (codes "lhu")
row_of (Store Sb) = row 0x23 (Funct3 0) (codes "sb")
row_of (Store Sh) = row 0x23 (Funct3 1) (codes "sh")
row_of (Store Sw) = row 0x23 (Funct3 2) (codes "sw")
row_of (Imm Addi) = row 0x13 (Funct3 0) (codes "addi")
row_of (Imm Slti) = row 0x13 (Funct3 2) (codes "slti")
row_of (Imm Sltiu) = row 0x13 (Funct3 3) (codes "sltiu")
row_of (Imm Xori) = row 0x13 (Funct3 4) (codes "xori")
row_of (Imm Ori) = row 0x13 (Funct3 6) (codes "ori")
row_of (Imm Andi) = row 0x13 (Funct3 7) (codes "andi")
row_of (Imm Slli) = row 0x13 (Funct3And7 1 0x00) (codes "slli")
row_of (Imm Srli) = row 0x13 (Funct3And7 5 0x00) (codes "srli")
row_of (Imm Srai) = row 0x13 (Funct3And7 5 0x20) (codes "srai")
row_of (Reg Add) = row 0x33 (Funct3And7 0 0x00) (codes "add")
row_of (Reg Sub) = row 0x33 (Funct3And7 0 0x20) (codes "sub")
row_of (Reg Sll) = row 0x33 (Funct3And7 1 0x00) (codes "sll")
row_of (Reg Slt) = row 0x33 (Funct3And7 2 0x00) (codes "slt")
row_of (Reg Sltu) = row 0x33 (Funct3And7 3 0x00) (codes "sltu")
row_of (Reg Xor) = row 0x33 (Funct3And7 4 0x00) (codes "xor")
row_of (Reg Srl) = row 0x33 (Funct3And7 5 0x00) (codes "srl")
row_of (Reg Sra) = row 0x33 (Funct3And7 5 0x20) (codes "sra")
row_of (Reg Or) = row 0x33 (Funct3And7 6 0x00) (codes "or")
row_of (Reg And) = row 0x33 (Funct3And7 7 0x00) (codes "and")
row_of (Reg Mul) = row 0x33 (Funct3And7 0 0x01) (codes "mul")
row_of (Reg Mulh) = row 0x33 (Funct3And7 1 0x01) (codes "mulh")
row_of (Reg Mulhsu) = row 0x33 (Funct3And7 2 0x01) (codes "mulhsu")
row_of (Reg Mulhu) = row 0x33 (Funct3And7 3 0x01) (codes "mulhu")
row_of (Reg Div) = row 0x33 (Funct3And7 4 0x01) (codes "div")
row_of (Reg Divu) = row 0x33 (Funct3And7 5 0x01) (codes "divu")
row_of (Reg Rem) = row 0x33 (Funct3And7 6 0x01) (codes "rem")
row_of (Reg Remu) = row 0x33 (Funct3And7 7 0x01) (codes "remu")
row_of Fence = row 0x0F (Funct3 0) (codes "fence")
row_of Ecall = row 0x73 (WholeWord 0x00000073) (codes "ecall")
row_of Ebreak = row 0x73 (WholeWord 0x00100073) (codes "ebreak")

-- The operations, in the order of their rows.
abbrev pub operations : List Operation
operations =
    Lui
    ∷ Auipc
    ∷ Jal
    ∷ Jalr
    ∷ Branch Beq
    ∷ Branch Bne
    ∷ Branch Blt
    ∷ Branch Bge
    ∷ Branch Bltu
    ∷ Branch Bgeu
    ∷ Load Lb
    ∷ Load Lh
    ∷ Load Lw
    ∷ Load Lbu
    ∷ Load Lhu
    ∷ Store Sb
    ∷ Store Sh
    ∷ Store Sw
    ∷ Imm Addi
    ∷ Imm Slti
    ∷ Imm Sltiu
    ∷ Imm Xori
    ∷ Imm Ori
    ∷ Imm Andi
    ∷ Imm Slli
    ∷ Imm Srli
    ∷ Imm Srai
    ∷ Reg Add
    ∷ Reg Sub
    ∷ Reg Sll
    ∷ Reg Slt
    ∷ Reg Sltu
    ∷ Reg Xor
    ∷ Reg Srl
    ∷ Reg Sra
    ∷ Reg Or
    ∷ Reg And
    ∷ Reg Mul
    ∷ Reg Mulh
    ∷ Reg Mulhsu
    ∷ Reg Mulhu
    ∷ Reg Div
    ∷ Reg Divu
    ∷ Reg Rem
    ∷ Reg Remu
    ∷ Fence
    ∷ Ecall
    ∷ Ebreak
    ∷ []

-- What is fixed is so in a word with this funct3 and funct7.
abbrev pub has_fixed : (f3 f7 w : ℕ) → Fixed → Bool
has_fixed f3 f7 w OpcodeOnly = true
has_fixed f3 f7 w (Funct3 a) = f3 == a
has_fixed f3 f7 w (Funct3And7 a b) = (f3 == a) && (f7 == b)
has_fixed f3 f7 w (WholeWord word) = w == word

-- A word with these fields has the row.
abbrev pub has_row : (code f3 f7 w : ℕ) → Row → Bool
has_row code f3 f7 w r = (code == r.code) && has_fixed f3 f7 w r.fixed

-- The operation whose row a word with these fields has, if it has one.
abbrev pub operation_at : (code f3 f7 w : ℕ) → Option Operation
operation_at code f3 f7 w = find (λ m. has_row code f3 f7 w (row_of m)) operations

-- The word has the operation's row: the row's fixed fields are its own.
abbrev pub is_row_of : Operation → ℕ → Bool
is_row_of m w = has_row (opcode w) (funct3 w) (funct7 w) w (row_of m)

-- The operation whose row a word has, if the table has one for it.
unfoldable pub operation_of : ℕ → Option Operation
operation_of w = operation_at (opcode w) (funct3 w) (funct7 w) w

-- The opcode of an operation.
abbrev pub code_of : Operation → ℕ
code_of m = (row_of m).code

abbrev pub fixed_funct3 : Fixed → ℕ
fixed_funct3 OpcodeOnly = 0
fixed_funct3 (Funct3 a) = a
fixed_funct3 (Funct3And7 a b) = a
fixed_funct3 (WholeWord word) = funct3 word

abbrev pub fixed_funct7 : Fixed → ℕ
fixed_funct7 OpcodeOnly = 0
fixed_funct7 (Funct3 a) = 0
fixed_funct7 (Funct3And7 a b) = b
fixed_funct7 (WholeWord word) = funct7 word

abbrev pub fixed_word : Fixed → ℕ
fixed_word (WholeWord word) = word
fixed_word _ = 0

-- The funct3 that an operation's row fixes, else 0.
abbrev pub funct3_of : Operation → ℕ
funct3_of m = fixed_funct3 (row_of m).fixed

-- The funct7 that an operation's row fixes, else 0.
abbrev pub funct7_of : Operation → ℕ
funct7_of m = fixed_funct7 (row_of m).fixed

-- The whole word that an operation's row fixes, else 0.
abbrev pub whole_of : Operation → ℕ
whole_of m = fixed_word (row_of m).fixed

-- The mnemonic's text.
abbrev pub text_of : Operation → List ℕ
text_of m = (row_of m).text

-- The operation that has this mnemonic.
abbrev pub operation_named : List ℕ → Option Operation
operation_named text = find (λ m. bytes_eq text (text_of m)) operations

abbrev pub fixes_funct7 : Fixed → Bool
fixes_funct7 (Funct3And7 a b) = true
fixes_funct7 _ = false

-- An operation on an immediate is a shift by an amount if its row fixes what stands above the amount.
abbrev pub is_shift : ImmOp → Bool
is_shift op = fixes_funct7 (row_of (Imm op)).fixed
