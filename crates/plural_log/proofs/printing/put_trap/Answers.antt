use Rattle.std.proofs.Common.{◌++◌, ◌∙◌, ap}
use Rattle.std.specs.Prelude.{codes}
use Rattle.std.specs.Fmt.{decimal}
use Rattle.std.proofs.lemmas.Result.{on_ok_weaker}
use Rattle.plural_bytes.specs.Hexadecimal.{hex_text}
use Rattle.plural_log.proofs.TaskTexts.{four_put}
use Rattle.plural_log.proofs.printing.put_trap.Goals as goal

-- The four parts of a trap stand one after the other.
pub returns : goal.returns
returns c =
    on_ok_weaker c.put_word.result
    (four_put c.args.out.now.items (codes "trap ") (decimal c.args.cause) (codes " pc ") (hex_text 8 c.args.pc) c.put.new.out.items c.put_number.new.out.items c.put-2.new.out.items c.put_word.new.out.items
    c.in_ok-put.ensures.ok (c.in_ok-put_number.ensures.ok ∙ ap (λ n. c.put.new.out.items ++ decimal n) c.from.ensures) c.in_ok-put-2.ensures.ok)
    c.put_word.ensures
