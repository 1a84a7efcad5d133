use Rattle.std.proofs.Common.{◌≡◌, map, Some, take}
use Rattle.plural_serial.proofs.outcome.settled.Given as goal

-- The outcomes up to here were there, and are kept.
abbrev pub invariant-loop-outcome : goal.invariant-loop-outcome
invariant-loop-outcome l = map (λ o. Some o) l.all.items ≡ take l.outcome-index l.outcomes
