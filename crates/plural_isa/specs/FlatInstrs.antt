-- A word laid out for execution: its mnemonic and all its fields. (This project's own.)
use Rattle.std.specs.Prelude.{ℕ, ℤ, pos, Option, Some, None}
use Rattle.plural_isa.specs.Fields.{rd, rs1, rs2, imm_i, imm_s, imm_b, imm_u, imm_j}
use Rattle.plural_isa.specs.Table.{operation_of}
use Rattle.plural_isa.specs.declared.table.Operation.{Operation}
use Rattle.plural_isa.specs.declared.table.Operation.TheVariants as o
use Rattle.plural_isa.specs.declared.instr.BranchOp.{BranchOp}
use Rattle.plural_isa.specs.declared.instr.BranchOp.TheVariants as branch
use Rattle.plural_isa.specs.declared.instr.LoadOp.{LoadOp}
use Rattle.plural_isa.specs.declared.instr.LoadOp.TheVariants as load
use Rattle.plural_isa.specs.declared.instr.StoreOp.{StoreOp}
use Rattle.plural_isa.specs.declared.instr.StoreOp.TheVariants as store
use Rattle.plural_isa.specs.declared.instr.ImmOp.{ImmOp}
use Rattle.plural_isa.specs.declared.instr.ImmOp.TheVariants as imm
use Rattle.plural_isa.specs.declared.instr.RegOp.{RegOp}
use Rattle.plural_isa.specs.declared.instr.RegOp.TheVariants as reg
use Rattle.plural_isa.specs.declared.flat_instr.Mnemonic.{Mnemonic}
use Rattle.plural_isa.specs.declared.flat_instr.Mnemonic.TheVariants as m
use Rattle.plural_isa.specs.declared.flat_instr.FlatInstr.{FlatInstr}

-- The mnemonic of a conditional branch.
abbrev pub branch_mnemonic : BranchOp → Mnemonic
branch_mnemonic branch.Beq = m.Beq
branch_mnemonic branch.Bne = m.Bne
branch_mnemonic branch.Blt = m.Blt
branch_mnemonic branch.Bge = m.Bge
branch_mnemonic branch.Bltu = m.Bltu
branch_mnemonic branch.Bgeu = m.Bgeu

-- The mnemonic of a load.
abbrev pub load_mnemonic : LoadOp → Mnemonic
load_mnemonic load.Lb = m.Lb
load_mnemonic load.Lh = m.Lh
load_mnemonic load.Lw = m.Lw
load_mnemonic load.Lbu = m.Lbu
load_mnemonic load.Lhu = m.Lhu

-- The mnemonic of a store.
abbrev pub store_mnemonic : StoreOp → Mnemonic
store_mnemonic store.Sb = m.Sb
store_mnemonic store.Sh = m.Sh
store_mnemonic store.Sw = m.Sw

-- The mnemonic of an operation of a register and an immediate.
abbrev pub imm_mnemonic : ImmOp → Mnemonic
imm_mnemonic imm.Addi = m.Addi
imm_mnemonic imm.Slti = m.Slti
imm_mnemonic imm.Sltiu = m.Sltiu
imm_mnemonic imm.Xori = m.Xori
imm_mnemonic imm.Ori = m.Ori
imm_mnemonic imm.Andi = m.Andi
imm_mnemonic imm.Slli = m.Slli
imm_mnemonic imm.Srli = m.Srli
imm_mnemonic imm.Srai = m.Srai

-- The mnemonic of an operation of two registers.
abbrev pub reg_mnemonic : RegOp → Mnemonic
reg_mnemonic reg.Add = m.Add
reg_mnemonic reg.Sub = m.Sub
reg_mnemonic reg.Sll = m.Sll
reg_mnemonic reg.Slt = m.Slt
reg_mnemonic reg.Sltu = m.Sltu
reg_mnemonic reg.Xor = m.Xor
reg_mnemonic reg.Srl = m.Srl
reg_mnemonic reg.Sra = m.Sra
reg_mnemonic reg.Or = m.Or
reg_mnemonic reg.And = m.And
reg_mnemonic reg.Mul = m.Mul
reg_mnemonic reg.Mulh = m.Mulh
reg_mnemonic reg.Mulhsu = m.Mulhsu
reg_mnemonic reg.Mulhu = m.Mulhu
reg_mnemonic reg.Div = m.Div
reg_mnemonic reg.Divu = m.Divu
reg_mnemonic reg.Rem = m.Rem
reg_mnemonic reg.Remu = m.Remu

-- The mnemonic of an operation.
abbrev pub mnemonic_of : Operation → Mnemonic
mnemonic_of o.Lui = m.Lui
mnemonic_of o.Auipc = m.Auipc
mnemonic_of o.Jal = m.Jal
mnemonic_of o.Jalr = m.Jalr
mnemonic_of (o.Branch op) = branch_mnemonic op
mnemonic_of (o.Load op) = load_mnemonic op
mnemonic_of (o.Store op) = store_mnemonic op
mnemonic_of (o.Imm op) = imm_mnemonic op
mnemonic_of (o.Reg op) = reg_mnemonic op
mnemonic_of o.Fence = m.Fence
mnemonic_of o.Ecall = m.Ecall
mnemonic_of o.Ebreak = m.Ebreak

-- The immediate of an operation's format in this word, and 0 if the format has none.
abbrev pub flat_imm : Operation → ℕ → ℤ
flat_imm o.Lui w = pos (imm_u w)
flat_imm o.Auipc w = pos (imm_u w)
flat_imm o.Jal w = imm_j w
flat_imm o.Jalr w = imm_i w
flat_imm (o.Branch op) w = imm_b w
flat_imm (o.Load op) w = imm_i w
flat_imm (o.Store op) w = imm_s w
flat_imm (o.Imm op) w = imm_i w
flat_imm (o.Reg op) w = pos 0
flat_imm o.Fence w = pos 0
flat_imm o.Ecall w = pos 0
flat_imm o.Ebreak w = pos 0

-- The mnemonic of a word's row; a word in no row is no instruction.
abbrev pub row_mnemonic : Option Operation → Mnemonic
row_mnemonic None = m.Illegal
row_mnemonic (Some operation) = mnemonic_of operation

-- The immediate of a word's row, and 0 if it has none.
abbrev pub row_imm : Option Operation → ℕ → ℤ
row_imm None w = pos 0
row_imm (Some operation) w = flat_imm operation w

-- The word with its mnemonic and its fields side by side.
abbrev pub flat_of : ℕ → FlatInstr
flat_of w =
    record {
      mnemonic = row_mnemonic (operation_of w);
      rd = rd w;
      rs1 = rs1 w;
      rs2 = rs2 w;
      imm = row_imm (operation_of w) w;
    }
