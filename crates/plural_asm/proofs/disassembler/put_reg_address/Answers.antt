use Rattle.std.specs.Prelude.{codes}
use Rattle.std.proofs.Common.{◌++◌, ap, ◌∙◌}
use Rattle.std.proofs.Math.Facts.{to_z-of_z}
use Rattle.plural_isa.specs.RegisterNames.{plain_name}
use Rattle.plural_asm.specs.WordText.{reg_address_text}
use Rattle.plural_asm.proofs.AppendFour.{append_four}
use Rattle.plural_asm.proofs.disassembler.put_reg_address.Goals as goal

-- The appended pieces are the text.
pub returns : goal.returns
returns c =
    c.in_ok-push-2.ensures.items
    ∙ ap (λ xs. xs ++ codes ")") (c.in_ok-put_reg.ensures ∙ ap (λ xs. xs ++ plain_name c.args.base) (c.in_ok-push.ensures.items ∙ ap (λ xs. xs ++ codes "(") c.in_ok-put_reg_number.ensures))
    ∙ append_four c.args.out.now.items _ _ _ _
    ∙ ap (λ z. c.args.out.now.items ++ reg_address_text c.args.mnemonic c.args.a z c.args.base) (to_z-of_z c.ranges.imm)
