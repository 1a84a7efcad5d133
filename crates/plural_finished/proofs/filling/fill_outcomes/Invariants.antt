use Rattle.std.proofs.Common.{◌≡◌, vec_capacity, vec_len}
use Rattle.plural_finished.specs.Finishing.{AreOutcomes}
use Rattle.plural_finished.proofs.filling.fill_outcomes.Given as goal

abbrev pub invariant-loop-t : goal.invariant-loop-t
invariant-loop-t l = AreOutcomes l.closed.opening l.t l.outcomes.items × (vec_len l.outcomes ≡ l.t) × (vec_capacity l.outcomes ≡ vec_capacity l.fn.outcomes)
