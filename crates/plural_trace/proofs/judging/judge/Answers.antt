use Rattle.std.proofs.Common.{◌∙◌, refl, sym, length}
use Rattle.plural_trace.specs.Verdicts.{Records, Tickets, expected_by}
use Rattle.plural_trace.proofs.SerialResults.{entries_within}
use Rattle.plural_trace.proofs.FirstFailure.{hold_first, passed, failed, finds_records, finds_tickets}
use Rattle.plural_trace.proofs.judging.judge.Goals as goal

-- The answer at `in-Some` meets the contract.
pub returns-in-Some : goal.returns-in-Some
returns-in-Some c =
    let x = expected_by c.args.map.now c.args.answer.now in
    let r1 = finds_records x c.args.log.now c.args.last.now _ _ _ c.records.ensures c.entries.ensures c.in_ok-at.ensures.least in
    failed x c.args.log.now c.args.last.now Records _ c.in-Some.at _ (hold_first x c.args.log.now c.args.last.now) r1 c.in-Some.is c.no.ensures

-- The answer at `in-Some-2` meets the contract.
pub returns-in-Some-2 : goal.returns-in-Some-2
returns-in-Some-2 c =
    let x = expected_by c.args.map.now c.args.answer.now in
    let r1 = finds_records x c.args.log.now c.args.last.now _ _ _ c.records.ensures c.entries.ensures c.in_ok-at.ensures.least in
    let h2 = passed x c.args.log.now c.args.last.now Records 2 _ refl (hold_first x c.args.log.now c.args.last.now) r1 c.in_default.is in
    let r2 = finds_tickets x c.args.log.now c.args.last.now _ _ c.entries-2.ensures c.in_ok-at-2.ensures.least in
    failed x c.args.log.now c.args.last.now Tickets _ c.in-Some-2.at _ h2 r2 c.in-Some-2.is c.no-in-Some-2.ensures

-- The call of `judge_order` has what its clause `own` requires.
pub judge_order-requires-clause-own : goal.judge_order-requires-clause-own
judge_order-requires-clause-own c =
    rw c.entries.ensures at (entries_within (length c.args.map.now.tasks) c.records.result.now c.entries.result.now (rw c.records.ensures c.requires.tasks) (sym c.in_ok-at.ensures.least ∙ c.in_default.is))

-- The call of `judge_order` has what its clause `tickets` requires.
pub judge_order-requires-clause-tickets : goal.judge_order-requires-clause-tickets
judge_order-requires-clause-tickets c = rw c.entries-2.ensures at (sym c.in_ok-at-2.ensures.least ∙ c.in_default-2.is)

-- The call of `judge_order` has what its clause `before` requires.
pub judge_order-requires-clause-before : goal.judge_order-requires-clause-before
judge_order-requires-clause-before c =
    let x = expected_by c.args.map.now c.args.answer.now in
    let r1 = finds_records x c.args.log.now c.args.last.now _ _ _ c.records.ensures c.entries.ensures c.in_ok-at.ensures.least in
    let h2 = passed x c.args.log.now c.args.last.now Records 2 _ refl (hold_first x c.args.log.now c.args.last.now) r1 c.in_default.is in
    let r2 = finds_tickets x c.args.log.now c.args.last.now _ _ c.entries-2.ensures c.in_ok-at-2.ensures.least in
    passed x c.args.log.now c.args.last.now Tickets 3 _ refl h2 r2 c.in_default-2.is
