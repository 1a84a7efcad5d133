use Rattle.std.proofs.Common.{◌≡◌, ◌-◌, length}
use Rattle.plural_map.specs.Order.{order_from, order_of}
use Rattle.plural_map.proofs.ordering.order.Given as goal

abbrev pub invariant-loop-n : goal.invariant-loop-n
invariant-loop-n l = order_from (length l.tasks - l._n) l.tasks l.done ≡ order_of l.tasks
