use Rattle.std.proofs.Common.{◌≡◌, None, Some, map}
use Rattle.plural_trace.specs.Least.{least}
use Rattle.plural_trace.specs.Rules.{breaks_outcomes}
use Rattle.plural_trace.proofs.compare.outcome_fault.Given as goal

abbrev pub invariant-loop-i : goal.invariant-loop-i
invariant-loop-i l = least (breaks_outcomes (map (λ o. Some o) l.serial) l.outcomes) l.i ≡ None
