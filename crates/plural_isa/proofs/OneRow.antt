-- A word has at most one row: each row that it has is the one of what it decodes to.
use Rattle.std.proofs.Common.{ℕ, ◌≡◌, ◌^◌, ◌<◌, true, Some, refl, ap, sym, ◌∙◌}
use Rattle.plural_isa.specs.Table.{is_row_of}
use Rattle.plural_isa.specs.Decoding.{decoded, instr_of}
use Rattle.plural_isa.specs.declared.table.Operation.{Operation}
use Rattle.plural_isa.specs.declared.table.Operation.TheVariants as o
use Rattle.plural_isa.specs.declared.instr.Instr.{Instr}
use Rattle.plural_isa.specs.declared.instr.Instr.TheVariants as instr
use Rattle.plural_isa.proofs.InstrRoundTrip.{instr_round_trip}
use Rattle.plural_isa.proofs.DecodedRanges.{fits_of}
use Rattle.plural_isa.proofs.WordRoundTrip.{row_back}

-- the operation of an instruction
abbrev operation_in : Instr → Operation
operation_in (instr.Lui rd imm) = o.Lui
operation_in (instr.Auipc rd imm) = o.Auipc
operation_in (instr.Jal rd offset) = o.Jal
operation_in (instr.Jalr rd rs1 imm) = o.Jalr
operation_in (instr.Branch op rs1 rs2 offset) = o.Branch op
operation_in (instr.Load op rd rs1 imm) = o.Load op
operation_in (instr.Store op rs1 rs2 imm) = o.Store op
operation_in (instr.OpImm op rd rs1 imm) = o.Imm op
operation_in (instr.Op op rd rs1 rs2) = o.Reg op
operation_in (instr.Fence fields) = o.Fence
operation_in instr.Ecall = o.Ecall
operation_in instr.Ebreak = o.Ebreak

operation_back : (m : Operation) (w : ℕ) → operation_in (instr_of m w) ≡ m
operation_back o.Lui w = refl
operation_back _ w = refl

-- a word that has a row decodes to that row's instruction
by_row : (w : ℕ) (m : Operation) → w < 2 ^ 32 → is_row_of m w ≡ true → decoded w ≡ Some (instr_of m w)
by_row w m h p =
    let f = fits_of m w h in
    ap decoded (sym (row_back m w h p)) ∙ instr_round_trip (instr_of m w) f.0 f.1

-- A word has the row of at most one operation.
pub one_row : (w : ℕ) (m n : Operation) → w < 2 ^ 32 → is_row_of m w ≡ true → is_row_of n w ≡ true → m ≡ n
one_row w m n h p q =
    let e : instr_of m w ≡ instr_of n w = (let f : Some (instr_of m w) ≡ Some (instr_of n w) = sym (by_row w m h p) ∙ by_row w n h q in cc) in
    sym (operation_back m w) ∙ ap operation_in e ∙ operation_back n w
