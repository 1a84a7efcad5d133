use Rattle.std.proofs.Common.{◌≡◌, ◌<◌, ℕ, false, not}
use Rattle.plural_map.specs.Order.{is_among}
use Rattle.plural_map.proofs.ordering.first_left.Given as goal

abbrev pub invariant-loop-t : goal.invariant-loop-t
invariant-loop-t l = (u : ℕ) → u < l.t → not (is_among u l.reached) ≡ false
