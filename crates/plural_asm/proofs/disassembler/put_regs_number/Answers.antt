use Rattle.std.proofs.Common.{◌++◌, ap, ◌∙◌, append_assoc}
use Rattle.std.proofs.Math.Facts.{to_z-of_z}
use Rattle.std.specs.Fmt.{signed_decimal}
use Rattle.plural_asm.proofs.disassembler.put_regs_number.Goals as goal

-- The appended pieces are the text.
pub returns : goal.returns
returns c =
    c.in_ok-put_number.ensures ∙ ap (λ z. c.put_two_regs.new.out.items ++ signed_decimal z) (to_z-of_z c.ranges.number)
    ∙ ap (λ xs. xs ++ signed_decimal c.args.number) c.in_ok-put_two_regs.ensures ∙ append_assoc c.args.out.now.items _ _
