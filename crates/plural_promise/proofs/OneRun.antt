-- A serial run is one, and so is the verdict on a log.
use Rattle.std.proofs.Common.{◌≡◌, ℕ, ◌≤◌, List, [], ◌∷◌, map, Some, refl, ap, sym, subst, ◌∙◌, arith, if◌then◌else◌, length}
use Rattle.std.specs.Prelude.{◌==◌}
use Rattle.std.proofs.lemmas.List.{length-map}
use Rattle.plural_map.specs.declared.outcome.Outcome.{Outcome}
use Rattle.plural_serial.specs.Program.{ProgramValue}
use Rattle.plural_serial.specs.Answer.{AnswerValue, IsSerial}
use Rattle.plural_trace.specs.SerialLog.{serial_log}
use Rattle.plural_trace.specs.Logs.{LogValue}
use Rattle.plural_trace.specs.declared.verdict.Verdict.{Verdict}
use Rattle.plural_trace.specs.declared.verdict.Verdict.TheVariants as verdict
use Rattle.plural_trace.specs.Verdicts as verdicts
use Rattle.plural_trace.specs.Verdicts.{Expected, expected_of, Rule, Fails, NoneFails, IsLegal, IsVerdict, IsFirstFailure}
use Rattle.plural_trace.proofs.Legality.{legal_exactly}
use Rattle.plural_output.specs.Text.{output_text}
use Rattle.plural_output.specs.Value.{OutputValue}
use Rattle.plural_bundle.specs.Value.{BundleValue}
use Rattle.plural_cli.specs.Run.{IsRan}
use Rattle.plural_cli.specs.Verify.{verdict_status, verdict_text, IsJudged}
use Rattle.plural_promise.proofs.OneFault.{IsOne}

-- ---- the serial run

-- Outcomes are the same if they are as ones that are there.
pub outcomes_same : (xs ys : List Outcome) → map (λ o. Some o) xs ≡ map (λ o. Some o) ys → xs ≡ ys
outcomes_same [] [] e = refl
outcomes_same [] (y ∷ ys) e = absurd cc
outcomes_same (x ∷ xs) [] e = absurd cc
outcomes_same (x ∷ xs) (y ∷ ys) e =
    let f : Some x ≡ Some y = cc in
    let h : x ≡ y = cc in
    let g : map (λ o. Some o) xs ≡ map (λ o. Some o) ys = cc in
    λ i. h i ∷ outcomes_same xs ys g i

-- What a serial run leaves is one.
pub one_serial : (p : ProgramValue) (m : List ℕ) (a b : AnswerValue) → IsSerial p m a → IsSerial p m b → a ≡ b
one_serial p m a b f g =
    let image = f.image ∙ sym g.image in
    let outcomes = outcomes_same a.outcomes b.outcomes (f.outcomes ∙ sym g.outcomes) in
    let records = f.records ∙ sym g.records in
    λ i. record { image = image i; outcomes = outcomes i; records = records i }

-- The answer that it makes is one.
pub one_ran : (b : BundleValue) → IsOne (IsRan b)
one_ran b s t s' t' f g =
    let e = one_serial b.program b.image f.run g.run f.serial g.serial in
    (f.status_is ∙ sym g.status_is, f.text_is ∙ ap (λ (a : AnswerValue). output_text b.program.map (serial_log a) a.image) e ∙ sym g.text_is)

-- ---- the verdict

rule_of : ℕ → Rule
rule_of n =
    if n == 1 then verdicts.Records else if n == 2 then verdicts.Tickets else if n == 3 then verdicts.Order else if n == 4 then verdicts.Cores
    else if n == 5 then verdicts.Rise else if n == 6 then verdicts.Outcomes else verdicts.Words

rule_back : (r : Rule) → rule_of (verdicts.rank r) ≡ r
unfolding rule_of
rule_back verdicts.Records = refl
rule_back verdicts.Tickets = refl
rule_back verdicts.Order = refl
rule_back verdicts.Cores = refl
rule_back verdicts.Rise = refl
rule_back verdicts.Outcomes = refl
rule_back verdicts.Words = refl

one_failure : (x : Expected) (log : LogValue) (last : List ℕ) (n at m to : ℕ) → IsFirstFailure x log last n at → IsFirstFailure x log last m to → (n ≡ m) × (at ≡ to)
one_failure x log last n at m to f g =
    let numbers : n ≡ m = omega (arith, f.first g.rule to g.fails, g.first f.rule at f.fails, f.numbered, g.numbered) in
    let rules : f.rule ≡ g.rule = sym (rule_back f.rule) ∙ ap rule_of (sym f.numbered ∙ numbers ∙ g.numbered) ∙ rule_back g.rule in
    let low : at ≤ to = f.least to (subst (λ r. Fails x log last r to) (sym rules) g.fails) in
    let high : to ≤ at = g.least at (subst (λ r. Fails x log last r at) rules f.fails) in
    (numbers, omega (arith, low, high))

-- No rule fails on a legal log.
none_fails : (x : Expected) (log : LogValue) (last : List ℕ) → IsLegal x log last → NoneFails x log last
none_fails x log last h = (legal_exactly x log last (sym (length-map log.outcomes (λ o. Some o)) ∙ ap length h.outcomes) (ap length h.words)).0 h

one_verdict : (x : Expected) (log : LogValue) (last : List ℕ) (v w : Verdict) → IsVerdict x log last v → IsVerdict x log last w → v ≡ w
one_verdict x log last verdict.Yes verdict.Yes f g = refl
one_verdict x log last verdict.Yes (verdict.No n at) f g = absurd (none_fails x log last f g.rule at g.fails)
one_verdict x log last (verdict.No n at) verdict.Yes f g = absurd (none_fails x log last g f.rule at f.fails)
one_verdict x log last (verdict.No n at) (verdict.No m to) f g = let e = one_failure x log last n at m to f g in λ i. verdict.No (e.0 i) (e.1 i)

-- The answer that tells the verdict on a log is one.
pub one_judged : (b : BundleValue) (o : OutputValue) → IsOne (IsJudged b o)
one_judged b o s t s' t' f g =
    let e = one_verdict (expected_of b.program b.image) o.log o.image f.verdict g.verdict f.exact g.exact in
    (f.status_is ∙ ap verdict_status e ∙ sym g.status_is, f.text_is ∙ ap (verdict_text (length o.log.entries)) e ∙ sym g.text_is)
