use Rattle.plural_trace.specs.Least.{Nowhere}
use Rattle.plural_trace.specs.Rules.{BreaksOrder}
use Rattle.plural_trace.proofs.order.order_fault.Given as goal

abbrev pub invariant-loop-i : goal.invariant-loop-i
invariant-loop-i l = Nowhere (BreaksOrder l.map.tasks l.entries) l.i
