use Rattle.std.proofs.Common.{◌∙◌, List, Some, map, refl, sym, ap}
use Rattle.std.proofs.lemmas.List.{length-map}
use Rattle.plural_map.specs.declared.outcome.Outcome.{Outcome}
use Rattle.plural_trace.specs.Verdicts.{Outcomes, Words, expected_in}
use Rattle.plural_trace.proofs.FirstFailure.{passed, failed, all_hold, finds_outcomes, finds_words}
use Rattle.plural_trace.proofs.Legality.{legal_from_none}
use Rattle.plural_trace.proofs.judging.judge_results.Goals as goal

-- The answer at `in-Some` meets the contract.
pub returns-in-Some : goal.returns-in-Some
returns-in-Some c tasks h6 =
    let x = expected_in tasks c.args.answer.now in
    let r6 = finds_outcomes x c.args.log.now c.args.last.now _ _ _ (ap (λ (os : List Outcome). map (λ o. Some o) os) c.outcomes.ensures) c.outcomes-2.ensures c.outcome_fault.ensures.least in
    failed x c.args.log.now c.args.last.now Outcomes _ c.in-Some.at _ h6 r6 c.in-Some.is c.no.ensures

-- The answer at `in-Some-word_fault` meets the contract.
pub returns-in-Some-word_fault : goal.returns-in-Some-word_fault
returns-in-Some-word_fault c tasks h6 =
    let x = expected_in tasks c.args.answer.now in
    let r6 = finds_outcomes x c.args.log.now c.args.last.now _ _ _ (ap (λ (os : List Outcome). map (λ o. Some o) os) c.outcomes.ensures) c.outcomes-2.ensures c.outcome_fault.ensures.least in
    let h7 = passed x c.args.log.now c.args.last.now Outcomes 7 _ refl h6 r6 c.in_default.is in
    let r7 = finds_words x c.args.log.now c.args.last.now _ _ c.image.ensures c.word_fault.ensures.least in
    failed x c.args.log.now c.args.last.now Words _ c.in-Some-word_fault.at _ h7 r7 c.in-Some-word_fault.is c.no-in-Some-word_fault.ensures

-- The answer meets the contract.
pub returns : goal.returns
returns c tasks h6 =
    let x = expected_in tasks c.args.answer.now in
    let r6 = finds_outcomes x c.args.log.now c.args.last.now _ _ _ (ap (λ (os : List Outcome). map (λ o. Some o) os) c.outcomes.ensures) c.outcomes-2.ensures c.outcome_fault.ensures.least in
    let h7 = passed x c.args.log.now c.args.last.now Outcomes 7 _ refl h6 r6 c.in_default.is in
    let r7 = finds_words x c.args.log.now c.args.last.now _ _ c.image.ensures c.word_fault.ensures.least in
    let h8 = passed x c.args.log.now c.args.last.now Words 8 _ refl h7 r7 c.in_default-word_fault.is in
    legal_from_none x c.args.log.now c.args.last.now (c.requires.one_each ∙ sym (length-map c.args.answer.now.outcomes (λ o. Some o))) c.requires.last (all_hold x c.args.log.now c.args.last.now h8)
