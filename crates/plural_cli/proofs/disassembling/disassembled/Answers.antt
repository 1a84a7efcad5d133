use Rattle.std.proofs.Common.{inr, arith}
use Rattle.std.proofs.lemmas.Result.{IfOk-weaker}
use Rattle.plural_cli.proofs.WordLines.{form_first, count_first, words_more}
use Rattle.plural_cli.proofs.disassembling.disassembled.Goals as goal

-- A line that is no word is the first fault, of form.
pub returns-in-None-clause-answer : goal.returns-in-None-clause-answer
returns-in-None-clause-answer c =
    let first = form_first c.args.lines.now c.loop-line.line-index _ _ _ c.loop-line-test.true c.loop-line.invariant (rw c.in-None.is at c.word_of.ensures) in
    IfOk-weaker _ _ _ (λ a p. inr (record { line = _; kind = _; first = first; status_is = p.0; text_is = p.1 })) c.fault_answer.ensures

-- A word after 16,384 words is the first fault, of count.
pub returns-then-count-ge16384-clause-answer : goal.returns-then-count-ge16384-clause-answer
returns-then-count-ge16384-clause-answer c =
    let first = count_first c.args.lines.now c.loop-line.line-index _ _ _ _ c.loop-line-test.true c.loop-line.invariant (rw c.in-Some.is at c.word_of.ensures) (omega (arith, c.if-count-ge16384.true)) in
    IfOk-weaker _ _ _ (λ a p. inr (record { line = _; kind = _; first = first; status_is = p.0; text_is = p.1 })) c.fault_answer-then-count-ge16384.ensures

-- One more word is read, and its line put.
pub loop-line-preserved : goal.loop-line-preserved
loop-line-preserved c =
    words_more c.args.lines.now c.loop-line.line-index _ _ _ _ _ c.loop-line-test.true c.loop-line.invariant (rw c.in-Some.is at c.word_of.ensures) (omega (arith, c.if-count-ge16384.false)) c.in_ok-put_word.ensures
