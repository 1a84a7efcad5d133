use Rattle.std.proofs.Common.{refl}
use Rattle.plural_trace.specs.Verdicts.{Order, Cores, Rise, expected_by}
use Rattle.plural_trace.proofs.FirstFailure.{passed, failed, finds_order, finds_cores, finds_rise}
use Rattle.plural_trace.proofs.judging.judge_order.Goals as goal

-- The answer at `in-Some` meets the contract.
pub returns-in-Some : goal.returns-in-Some
returns-in-Some c =
    let x = expected_by c.args.map.now c.args.answer.now in
    let r3 = finds_order x c.args.log.now c.args.last.now _ _ c.entries.ensures c.in_ok-at.ensures.least in
    failed x c.args.log.now c.args.last.now Order _ c.in-Some.at _ c.requires.before r3 c.in-Some.is c.no.ensures

-- The answer at `in-Some-2` meets the contract.
pub returns-in-Some-2 : goal.returns-in-Some-2
returns-in-Some-2 c =
    let x = expected_by c.args.map.now c.args.answer.now in
    let h4 = passed x c.args.log.now c.args.last.now Order 4 _ refl c.requires.before (finds_order x c.args.log.now c.args.last.now _ _ c.entries.ensures c.in_ok-at.ensures.least) c.in_default.is in
    let r4 = finds_cores x c.args.log.now c.args.last.now _ _ _ c.cores.ensures c.entries-2.ensures c.in_ok-at-2.ensures.least in
    failed x c.args.log.now c.args.last.now Cores _ c.in-Some-2.at _ h4 r4 c.in-Some-2.is c.no-in-Some-2.ensures

-- The answer at `in-Some-rise_fault` meets the contract.
pub returns-in-Some-rise_fault : goal.returns-in-Some-rise_fault
returns-in-Some-rise_fault c =
    let x = expected_by c.args.map.now c.args.answer.now in
    let h4 = passed x c.args.log.now c.args.last.now Order 4 _ refl c.requires.before (finds_order x c.args.log.now c.args.last.now _ _ c.entries.ensures c.in_ok-at.ensures.least) c.in_default.is in
    let h5 = passed x c.args.log.now c.args.last.now Cores 5 _ refl h4 (finds_cores x c.args.log.now c.args.last.now _ _ _ c.cores.ensures c.entries-2.ensures c.in_ok-at-2.ensures.least) c.in_default-2.is in
    let r5 = finds_rise x c.args.log.now c.args.last.now _ _ c.entries-3.ensures c.rise_fault.ensures.least in
    failed x c.args.log.now c.args.last.now Rise _ c.in-Some-rise_fault.at _ h5 r5 c.in-Some-rise_fault.is c.no-in-Some-rise_fault.ensures

-- The answer meets the contract.
pub returns : goal.returns
returns c =
    let x = expected_by c.args.map.now c.args.answer.now in
    let h4 = passed x c.args.log.now c.args.last.now Order 4 _ refl c.requires.before (finds_order x c.args.log.now c.args.last.now _ _ c.entries.ensures c.in_ok-at.ensures.least) c.in_default.is in
    let h5 = passed x c.args.log.now c.args.last.now Cores 5 _ refl h4 (finds_cores x c.args.log.now c.args.last.now _ _ _ c.cores.ensures c.entries-2.ensures c.in_ok-at-2.ensures.least) c.in_default-2.is in
    let r5 = finds_rise x c.args.log.now c.args.last.now _ _ c.entries-3.ensures c.rise_fault.ensures.least in
    c.judge_results.ensures c.args.map.now.tasks (passed x c.args.log.now c.args.last.now Rise 6 _ refl h5 r5 c.in_default-rise_fault.is)
