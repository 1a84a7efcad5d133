use Rattle.std.proofs.Common.{length, map, Some, sym, ◌∙◌}
use Rattle.plural_trace.specs.Rules.{breaks_outcomes}
use Rattle.plural_trace.proofs.LeastPlaces.{least_found, least_next}
use Rattle.plural_trace.proofs.compare.outcome_fault.Goals as goal

-- The answer at `then-is_other_outcome` meets the clause `least`.
pub returns-then-is_other_outcome-clause-least : goal.returns-then-is_other_outcome-clause-least
returns-then-is_other_outcome-clause-least c =
    least_found (breaks_outcomes (map (λ o. Some o) c.args.serial.now) c.args.outcomes.now) c.loop-i.i (length c.args.serial.now) c.loop-i-test.true c.loop-i.invariant (sym c.is_other_outcome.ensures ∙ c.if-is_other_outcome.true)

-- A turn of `loop-i` keeps its invariant.
pub loop-i-preserved : goal.loop-i-preserved
loop-i-preserved c = least_next (breaks_outcomes (map (λ o. Some o) c.args.serial.now) c.args.outcomes.now) c.loop-i.i c.loop-i.invariant (sym c.is_other_outcome.ensures ∙ c.if-is_other_outcome.false)
