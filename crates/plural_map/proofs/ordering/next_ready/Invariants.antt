use Rattle.std.proofs.Common.{◌≡◌, ◌<◌, ℕ, false}
use Rattle.plural_map.specs.Order.{is_ready}
use Rattle.plural_map.proofs.ordering.next_ready.Given as goal

abbrev pub invariant-loop-t : goal.invariant-loop-t
invariant-loop-t l = (u : ℕ) → u < l.t → is_ready l.tasks l.done u ≡ false
