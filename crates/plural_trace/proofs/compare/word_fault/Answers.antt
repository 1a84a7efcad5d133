use Rattle.std.proofs.Common.{length, sym, ◌∙◌}
use Rattle.plural_trace.specs.Rules.{breaks_words}
use Rattle.plural_trace.proofs.LeastPlaces.{least_found, least_next}
use Rattle.plural_trace.proofs.compare.word_fault.Goals as goal

-- The answer at `then-is_other_word` meets the clause `least`.
pub returns-then-is_other_word-clause-least : goal.returns-then-is_other_word-clause-least
returns-then-is_other_word-clause-least c =
    least_found (breaks_words c.args.serial.now c.args.last.now) c.loop-i.i (length c.args.serial.now) c.loop-i-test.true c.loop-i.invariant (sym c.is_other_word.ensures ∙ c.if-is_other_word.true)

-- A turn of `loop-i` keeps its invariant.
pub loop-i-preserved : goal.loop-i-preserved
loop-i-preserved c = least_next (breaks_words c.args.serial.now c.args.last.now) c.loop-i.i c.loop-i.invariant (sym c.is_other_word.ensures ∙ c.if-is_other_word.false)
