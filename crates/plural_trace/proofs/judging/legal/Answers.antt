use Rattle.std.proofs.Common.{subst}
use Rattle.std.proofs.lemmas.Result.{IfOk-weaker}
use Rattle.plural_map.specs.Value.{MapValue}
use Rattle.plural_map.specs.Limits.{IsMap}
use Rattle.plural_trace.specs.Verdicts.{Expected, IsVerdict, expected_by}
use Rattle.plural_trace.proofs.SerialResults.{expected_same}
use Rattle.plural_trace.proofs.RecordNumbers.{records_standing}
use Rattle.plural_trace.proofs.judging.legal.Goals as goal

-- The call of `judge` has what its clause `by_instance` requires.
pub judge-requires-clause-by_instance : goal.judge-requires-clause-by_instance
judge-requires-clause-by_instance c limits =
    rw c.in_ok-answer.ensures.answer.records (records_standing c.args.program.now c.args.start.now (subst (λ (m : MapValue). IsMap m) c.map.ensures limits))

-- The answer meets the contract.
pub returns : goal.returns
returns c =
    let p = c.args.program.now in
    let a = c.in_ok-answer.answer in
    IfOk-weaker _ _ _
    (λ v h. subst (λ (x : Expected). IsVerdict x c.args.log.now c.args.last.now v) (expected_same p c.args.start.now a c.in_ok-answer.ensures.answer)
    (subst (λ (m : MapValue). IsVerdict (expected_by m a) c.args.log.now c.args.last.now v) c.map.ensures h))
    c.judge.ensures
