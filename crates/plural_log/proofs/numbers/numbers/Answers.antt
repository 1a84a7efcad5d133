use Rattle.std.proofs.Common.{◌∙◌, Some, None, ap, sym, cond}
use Rattle.std.specs.Prelude.{bytes_eq}
use Rattle.std.proofs.Common.{take}
use Rattle.plural_map.specs.Value.{TaskValue}
use Rattle.std.specs.Option.{option_or}
use Rattle.plural_log.specs.Numbers.{number_for}
use Rattle.plural_log.proofs.NameNumbers.{number_more}
use Rattle.plural_log.proofs.numbers.numbers.Goals as goal

-- One more task is noted.
pub loop-t-preserved : goal.loop-t-preserved
loop-t-preserved c = λ q.
    let ts = c.args.tasks.now in
    let i = c.loop-t.t in
    c.in_ok-note.ensures.ok q
    ∙ rw (c.loop-t.invariant q, c.name.ensures)
    (ap (λ (t : TaskValue). option_or (number_for (take i ts) q) (cond (bytes_eq t.name q) (Some i) None)) c.index-tasks-t.is ∙ sym (number_more ts i c.index-tasks-t.result q c.loop-t-test.true))
