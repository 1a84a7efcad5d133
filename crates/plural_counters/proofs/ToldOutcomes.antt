-- A task that was told was told its outcome, and its counters say it.
use Rattle.std.proofs.Common.{◌≡◌, ℕ, ◌+◌, ◌≤◌, ◌==◌, Bool, true, false, cond, List, Contains, sym, refl, ap, ◌∙◌, arith, eq-eqb, ne_eqb}
use mathlib.Core.Logic.{dite}
use native.Mathlib.Decide.{ℕ_discrete}
use Rattle.std.specs.Int.{bit_at}
use Rattle.std.proofs.lemmas.List.Elements.{All-contains}
use Rattle.plural_map.specs.declared.outcome.Outcome.{Outcome}
use Rattle.plural_map.specs.declared.outcome.Outcome.TheVariants as outcome
use Rattle.plural_map.specs.declared.outcome.Decision.{Decision}
use Rattle.plural_map.specs.declared.outcome.Decision.TheVariants as decision
use Rattle.plural_order.specs.Sums.{sign}
use Rattle.plural_order.specs.TaskGraph.{TaskGraph, decision_by}
use Rattle.plural_counters.specs.Duties.{phase_of, MayRun}
use Rattle.plural_counters.specs.Counters.{Counters, running, Fits, IsCounted}
use Rattle.plural_counters.specs.Laws.{ToldOutcome, CountersTell, RunsAsArmed, outcome_of_state, outcome_of_flags}
use Rattle.plural_counters.specs.declared.duty.Duty.{Duty}
use Rattle.plural_counters.specs.declared.duty.Duty.TheVariants.{Told}
use Rattle.plural_counters.proofs.Sums.{one_same, sign_no, mask_open, term_in}
use Rattle.plural_counters.proofs.Instances as counted
use Rattle.plural_counters.proofs.Decisions as decided

-- A task that was told was told its outcome.
pub told_outcome : ToldOutcome
told_outcome g c l t o r there = let fits = All-contains (Fits g c) l (Told t o) r.fits there in record { task = fits.0; outcome = fits.1 }

-- A task that is skipped has no failed dependency.
skipped_by : (b : Bool) (x : Decision) → cond b x decision.Fail ≡ decision.Skip → cond b outcome.Skipped outcome.Failed ≡ outcome.Skipped
skipped_by true x e = refl
skipped_by false x e = absurd cc

-- What is decided if no dependency is failed isn't to fail.
not_failed : (none some unmet met : Bool) → cond none decision.Run (cond some (cond unmet decision.Skip decision.Run) (cond met decision.Run decision.Skip)) ≡ decision.Fail → ⊥
not_failed true some unmet met e = absurd cc
not_failed false true true met e = absurd cc
not_failed false true false met e = absurd cc
not_failed false false unmet true e = absurd cc
not_failed false false unmet false e = absurd cc

-- A task that fails has a failed dependency.
failed_by : (b : Bool) (x : Decision) → (x ≡ decision.Fail → ⊥) → cond b x decision.Fail ≡ decision.Fail → cond b outcome.Skipped outcome.Failed ≡ outcome.Failed
failed_by true x not e = absurd (not e)
failed_by false x not e = refl

module _ (g : TaskGraph) (c : Counters) (l : List Duty) (t : ℕ) (o : Outcome) (r : IsCounted g c l) (there : Contains l (Told t o)) (as_armed : RunsAsArmed g c t) where
  fits : Fits g c (Told t o)
  fits = All-contains (Fits g c) l (Told t o) r.fits there

  phases : sign (c.open_deps t) + running (c.alloc t) (c.left t) ≡ 0
  phases = omega (arith, term_in (phase_of t) l (Told t o) there, one_same t t refl, r.phase t fits.0)

  -- Its dependencies are all counted.
  shut : c.open_deps t ≡ 0
  shut = sign_no (c.open_deps t) (omega (arith, phases))

  -- If it was armed nothing is left of it.
  nothing : 1 ≤ c.alloc t → c.left t ≡ 0
  nothing armed = sign_no (c.left t) (omega (arith, phases, mask_open (c.alloc t) (sign (c.left t)) armed))

  -- Then all of it runs, and the tasks before it have ended.
  may_run : 1 ≤ c.alloc t → MayRun g c.done t
  may_run armed = record { runs = as_armed.runs armed; earlier = fits.2.earlier }

  -- If it wasn't it isn't to run, and its state says why.
  by_state : c.alloc t ≡ 0 → (d : Decision) → decision_by g t ≡ d → outcome_of_state (c.state t) ≡ g.outcome t
  by_state unarmed decision.Run e =
      let some_instance = r.graph.quota_some t fits.0 in
      absurd (omega (arith, fits.2.own 0 (r.graph.runs t 0 fits.0 e some_instance), as_armed.undone unarmed 0 some_instance))
  by_state unarmed decision.Skip e = skipped_by (bit_at (c.state t) 0 == 0) _ (decided.decision_is g c l t r fits.0 shut ∙ e) ∙ sym (r.graph.skips t fits.0 e).0
  by_state unarmed decision.Fail e =
      failed_by (bit_at (c.state t) 0 == 0) _
      (not_failed (g.deps t == 0) (g.some t) (bit_at (c.state t) 2 == 0) (bit_at (c.state t) 1 == 0))
      (decided.decision_is g c l t r fits.0 shut ∙ e) ∙ sym (r.graph.fails t fits.0 e).0

-- The counters of a task that was told say its outcome.
pub counters_tell : CountersTell
counters_tell g c l t o r there as_armed = dite (ℕ_discrete (c.alloc t) 0)
    (λ z. ap (λ b. cond b (outcome_of_state (c.state t)) (outcome_of_flags (c.flags t))) (eq-eqb (c.alloc t) 0 z)
    ∙ by_state g c l t o r there as_armed z (decision_by g t) refl)
    (λ ne. ap (λ b. cond b (outcome_of_state (c.state t)) (outcome_of_flags (c.flags t))) (ne_eqb (c.alloc t) 0 ne)
    ∙ counted.outcome_is g c l t r (fits g c l t o r there as_armed).0 (nothing g c l t o r there as_armed (omega (arith, ne))) (may_run g c l t o r there as_armed (omega (arith, ne))))
