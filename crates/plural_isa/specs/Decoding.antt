-- The instruction that a word spells: that of its row of the table, with its fields (RV32I 2.1, "Base
-- Instruction Formats").
use Rattle.std.specs.Prelude.{ℕ, ◌+◌, ◌*◌, ◌/◌, ◌%◌, ◌^◌, ℤ, pos, Bool, true, false, Option, option_map}
use Rattle.plural_isa.specs.Fields.{rd, rs1, rs2, imm_i, imm_s, imm_b, imm_u, imm_j}
use Rattle.plural_isa.specs.Table.{operation_of, is_shift}
use Rattle.plural_isa.specs.declared.table.Operation.{Operation}
use Rattle.plural_isa.specs.declared.table.Operation.TheVariants as o
use Rattle.plural_isa.specs.declared.instr.Instr.{Instr}
use Rattle.plural_isa.specs.declared.instr.Instr.TheVariants as instr
use Rattle.plural_isa.specs.declared.instr.ImmOp.{ImmOp}

-- The amount of a shift, which stands in the place of rs2, or the immediate of another operation.
abbrev pub amount_or_imm : Bool → ℕ → ℤ
amount_or_imm true w = pos (rs2 w)
amount_or_imm false w = imm_i w

-- An operation on an immediate, of the I format.
abbrev pub imm_at : ImmOp → ℕ → Instr
imm_at op w = instr.OpImm op (rd w) (rs1 w) (amount_or_imm (is_shift op) w)

-- The instruction of an operation, with the fields of the word.
abbrev pub instr_of : Operation → ℕ → Instr
instr_of o.Lui w = instr.Lui (rd w) (imm_u w)
instr_of o.Auipc w = instr.Auipc (rd w) (imm_u w)
instr_of o.Jal w = instr.Jal (rd w) (imm_j w)
instr_of o.Jalr w = instr.Jalr (rd w) (rs1 w) (imm_i w)
instr_of (o.Branch op) w = instr.Branch op (rs1 w) (rs2 w) (imm_b w)
instr_of (o.Load op) w = instr.Load op (rd w) (rs1 w) (imm_i w)
instr_of (o.Store op) w = instr.Store op (rs1 w) (rs2 w) (imm_s w)
instr_of (o.Imm op) w = imm_at op w
instr_of (o.Reg op) w = instr.Op op (rd w) (rs1 w) (rs2 w)
instr_of o.Fence w = instr.Fence (w / 2 ^ 15 * 32 + w / 2 ^ 7 % 32)
instr_of o.Ecall w = instr.Ecall
instr_of o.Ebreak w = instr.Ebreak

-- The instruction of a word, exactly if the table has a row for it.
abbrev pub decoded : ℕ → Option Instr
decoded w = option_map (λ m. instr_of m w) (operation_of w)
