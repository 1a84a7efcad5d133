use Rattle.std.proofs.Common.{length, sym, ◌∙◌}
use Rattle.plural_trace.specs.Rules.{breaks_rise}
use Rattle.plural_trace.proofs.LeastPlaces.{least_found, least_next}
use Rattle.plural_trace.proofs.rise.rise_fault.Goals as goal

-- The answer at `then-is_early` meets the clause `least`.
pub returns-then-is_early-clause-least : goal.returns-then-is_early-clause-least
returns-then-is_early-clause-least c =
    least_found (breaks_rise c.args.entries.now) c.loop-i.i (length c.args.entries.now) c.loop-i-test.true c.loop-i.invariant (sym c.is_early.ensures ∙ c.if-is_early.true)

-- A turn of `loop-i` keeps its invariant.
pub loop-i-preserved : goal.loop-i-preserved
loop-i-preserved c = least_next (breaks_rise c.args.entries.now) c.loop-i.i c.loop-i.invariant (sym c.is_early.ensures ∙ c.if-is_early.false)
