use Rattle.std.proofs.Common.{length, sym, ◌∙◌}
use Rattle.plural_map.specs.Order.{is_ready}
use Rattle.plural_map.proofs.LeastNumbers.{least_found, least_none}
use Rattle.plural_map.proofs.ordering.next_ready.Goals as goal

-- The number is the least that is ready.
pub returns-then-is_ready : goal.returns-then-is_ready
returns-then-is_ready c =
    sym (least_found (is_ready c.args.tasks.now c.args.done.now) (length c.args.tasks.now) c.loop-t.t c.loop-t-test.true c.loop-t.invariant (sym c.is_ready.ensures ∙ c.if-is_ready.true))

-- None is.
pub returns : goal.returns
returns c = sym (least_none (is_ready c.args.tasks.now c.args.done.now) (length c.args.tasks.now) c.loop-t.t c.loop-t-test.false c.loop-t.invariant)
