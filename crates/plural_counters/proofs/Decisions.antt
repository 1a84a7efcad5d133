-- A task whose dependencies are all counted is decided, and armed if it is to run.
use Rattle.std.proofs.Common.{◌≡◌, ℕ, ◌+◌, ◌-◌, ◌<◌, ◌≤◌, ◌≢◌, true, false, List, [], ◌∷◌, sym, refl, ap, ◌∙◌, subst, ⊎_elim, arith}
use mathlib.Core.Logic.{dite}
use native.Mathlib.Decide.{ℕ_discrete}
use Rattle.std.specs.Int.{bit_at}
use Rattle.std.proofs.lemmas.List.Elements.{All-nil, All-contains}
use Rattle.plural_map.specs.declared.outcome.Outcome.TheVariants as outcome
use Rattle.plural_map.specs.declared.outcome.Decision.{Decision}
use Rattle.plural_map.specs.declared.outcome.Decision.TheVariants as decision
use Rattle.plural_order.specs.Sums.{sum_below, sum_over, sign, masked, times}
use Rattle.plural_order.specs.TaskGraph.{TaskGraph, any_edge, decide_by, decision_by}
use Rattle.plural_order.proofs.Sums.{below_same, below_none, below_zero}
use Rattle.plural_counters.specs.Duties.{if_equal, phase_of, unarmed_of, counted_of, marked_of, HasEnded}
use Rattle.plural_counters.specs.Counters.{Counters, running, Fits, IsCounted}
use Rattle.plural_counters.specs.Steps.{with_alloc, Keeps, on_decision}
use Rattle.plural_counters.specs.Laws.{decision_of_state, LoadsState, Arms}
use Rattle.plural_counters.specs.declared.duty.Duty.{Duty}
use Rattle.plural_counters.specs.declared.duty.Duty.TheVariants.{Flag, Count, Close, Tell, Decide, Arm, Told}
use Rattle.plural_counters.proofs.Sums.{one_same, one_else, equal_else, sign_none, sign_some, sign_le, sign_no, mask_shut, mask_open, term_in, sum_le, sum_none, sum_some}
use Rattle.plural_counters.proofs.Duties.{alone_none, alone_decide, alone_arm, counted_marked, marked_none}
use Rattle.plural_counters.proofs.Parts.{set_here, set_else, Grows, all_one}
use Rattle.plural_counters.proofs.Parts as part
use Rattle.plural_counters.proofs.Instances.{tell_keeps}

-- ---- decided

-- A task whose dependencies are all counted.
module _ (g : TaskGraph) (c : Counters) (l : List Duty) (u : ℕ) (r : IsCounted g c l) (small : u < g.tasks) (shut : c.open_deps u ≡ 0) where
  all_counted : (t : ℕ) → t < g.tasks → times u (g.successors t) ≤ sum_over (counted_of g t u) l
  all_counted t h = let f : ℕ → ℕ = λ z. times u (g.successors z) - sum_over (counted_of g z u) l in let z = below_zero f g.tasks t (sym (r.open_deps u small) ∙ shut) h in omega (arith, z)

  -- The tasks that it depends on have ended.
  dependency_ended : (t : ℕ) → t < g.tasks → 1 ≤ times u (g.successors t) → HasEnded g c.done t
  dependency_ended t small_t h = let p = sum_some (counted_of g t u) l (omega (arith, all_counted t small_t, h)) in from p.0 p.2 (All-contains (Fits g c) l p.0 r.fits p.1)
    where
      at : (x n : ℕ) → 1 ≤ if_equal x t n → HasEnded g c.done x → HasEnded g c.done t
      at x n h ended = dite (ℕ_discrete x t) (λ e. subst (λ (y : ℕ). HasEnded g c.done y) e ended) (λ ne. absurd (omega (arith, equal_else x t n ne)))

      from : (p : Duty) → 1 ≤ counted_of g t u p → Fits g c p → HasEnded g c.done t
      from (Flag x k) h ok = absurd (omega arith)
      from (Count x k) h ok = absurd (omega arith)
      from (Close x) h ok = absurd (omega arith)
      from (Tell x o e y) h ok = at x _ h ok.3
      from (Decide x) h ok = absurd (omega arith)
      from (Arm x) h ok = absurd (omega arith)
      from (Told x o) h ok = at x _ h ok.2

  state_is : (i : ℕ) → bit_at (c.state u) i ≡ any_edge g u i
  state_is i = r.state u i small ∙ ap sign (below_same _ _ g.tasks (λ t h. each t h))
    where
      each : (t : ℕ) → t < g.tasks → masked (sum_over (marked_of g t u) l) (bit_at (g.edges t u) i) ≡ masked (times u (g.successors t)) (bit_at (g.edges t u) i)
      each t h = let b = bit_at (g.edges t u) i in dite (ℕ_discrete (times u (g.successors t)) 0)
          (λ z. mask_shut _ b (sum_none (marked_of g t u) l (marked_none g t u z)) ∙ sym (mask_shut _ b z))
          (λ ne. mask_open _ b (omega (arith, ne, all_counted t h, sum_le (counted_of g t u) (marked_of g t u) l (counted_marked g t u))) ∙ sym (mask_open _ b (omega (arith, ne))))

  -- Its state says what is decided of it.
  pub decision_is : decision_of_state g u (c.state u) ≡ decision_by g u
  decision_is = ap (λ n. decide_by (g.some u) (g.deps u) n (bit_at (c.state u) 1) (bit_at (c.state u) 2)) (state_is 0)
      ∙ (ap (λ n. decide_by (g.some u) (g.deps u) (any_edge g u 0) n (bit_at (c.state u) 2)) (state_is 1)
      ∙ ap (λ n. decide_by (g.some u) (g.deps u) (any_edge g u 0) (any_edge g u 1) n) (state_is 2))

  earlier_done : (x i : ℕ) → g.ran x i ≡ true → g.before x u ≡ true → 0 < c.done x i
  earlier_done x i ran before = let b = r.graph.before_by x u before in let ended = dependency_ended b.0 b.1 b.2 in
      ⊎_elim (λ e. subst (λ (y : ℕ). g.ran y i ≡ true → 0 < c.done y i) (sym e) (ended.own i) ran) (λ y. ended.earlier x i ran y) b.3

  -- It is to be armed.
  run_keeps : decision_by g u ≡ decision.Run → Keeps g l (Decide u ∷ []) (Arm u ∷ []) c
  run_keeps run m d step s = part.phase_keeps g c d l m _ _ step r (part.same_alloc g c d s) (alone_decide g u) (alone_arm g u)
      (λ x h. omega (arith, ap (λ n. running n (c.left x)) (s.alloc x h)))
      (λ x h. omega (arith, ap sign (s.alloc x h)))
      (λ grows. all_one (Fits g d) (Arm u) (
        small,
        record {
          runs = λ k h. r.graph.runs u k small run h;
          earlier = λ x i ran b. grows.done x i ran (earlier_done x i ran b);
        },
      ))

  ended_unrun : ((k : ℕ) → g.ran u k ≡ false) → HasEnded g c.done u
  ended_unrun none = record { own = λ k ran. absurd (let f : true ≡ false = sym ran ∙ none k in cc); earlier = earlier_done }

  -- To decide it keeps the rule.
  decide_keeps : (z : Decision) → decision_by g u ≡ z → Keeps g l (Decide u ∷ []) (on_decision g u z) c
  decide_keeps decision.Run e = run_keeps e
  decide_keeps decision.Skip e =
      let none = r.graph.skips u small e in
      tell_keeps g c l u outcome.Skipped (Decide u) r small (sym none.0) (ended_unrun none.1) (alone_decide g u) (λ x. refl)
  decide_keeps decision.Fail e =
      let none = r.graph.fails u small e in
      tell_keeps g c l u outcome.Failed (Decide u) r small (sym none.0) (ended_unrun none.1) (alone_decide g u) (λ x. refl)

-- To decide a task keeps the rule.
pub load_state : LoadsState
load_state g c l u r there =
    let small : u < g.tasks = All-contains (Fits g c) l (Decide u) r.fits there in
    let shut : c.open_deps u ≡ 0 = sign_no (c.open_deps u) (omega (arith, term_in (phase_of u) l (Decide u) there, one_same u u refl, r.phase u small)) in
    record { decision = decision_is g c l u r small shut; keeps = decide_keeps g c l u r small shut (decision_by g u) refl }

-- ---- armed

arm_keeps : (g : TaskGraph) (c : Counters) (l : List Duty) (t : ℕ) → IsCounted g c l → t < g.tasks → c.alloc t ≡ 0 → ((k : ℕ) → k < g.quota t → c.done t k ≡ 0) → Keeps g l (Arm t ∷ []) [] (with_alloc c t 1)
arm_keeps g c l t r small was undone m d step s =
    let now : d.alloc t ≡ 1 = s.alloc t small ∙ set_here c.alloc t 1 t refl in
    let else : (x : ℕ) → x < g.tasks → x ≢ t → d.alloc x ≡ c.alloc x = λ x h ne. s.alloc x h ∙ set_else c.alloc t 1 x ne in
    let none : sum_below (λ k. sign (c.done t k)) (g.quota t) ≡ 0 = below_none (λ k. sign (c.done t k)) (g.quota t) (λ k h. sign_none (c.done t k) (undone k h)) in
    let some_left : 1 ≤ c.left t = omega (arith, none, r.left t small, r.graph.quota_some t small) in
    part.phase_keeps g c d l m _ _ step r
    (record {
      alloc = λ x h. dite (ℕ_discrete x t) (λ e. omega (arith, ap c.alloc e, was)) (λ ne. omega (arith, else x h ne));
      done = s.done;
      flags = s.flags;
      left = s.left;
      state = s.state;
      open_deps = s.open_deps;
    })
    (alone_arm g t) (alone_none g)
    (λ x h. dite (ℕ_discrete x t)
    (λ e. subst (λ (y : ℕ). 0 + running (d.alloc y) (c.left y) ≡ sum_over (phase_of y) (Arm t ∷ []) + running (c.alloc y) (c.left y)) (sym e)
    (omega (arith, one_same t t refl, mask_shut (c.alloc t) (sign (c.left t)) was, mask_open (d.alloc t) (sign (c.left t)) (omega (arith, now)), sign_some (c.left t) some_left)))
    (λ ne. omega (arith, one_else t x (λ q. ne (sym q)), ap (λ n. running n (c.left x)) (else x h ne))))
    (λ x h. dite (ℕ_discrete x t)
    (λ e. subst (λ (y : ℕ). 0 + sign (d.alloc y) ≤ sum_over (unarmed_of y) (Arm t ∷ []) + sign (c.alloc y)) (sym e) (omega (arith, one_same t t refl, sign_le (d.alloc t))))
    (λ ne. omega (arith, ap sign (else x h ne))))
    (λ _. All-nil (Fits g d))

-- To arm a task keeps the rule.
pub arm : Arms
arm g c l t r there undone =
    let fits = All-contains (Fits g c) l (Arm t) r.fits there in
    let was : c.alloc t ≡ 0 = sign_no (c.alloc t) (omega (arith, term_in (unarmed_of t) l (Arm t) there, one_same t t refl, r.unarmed t fits.0)) in
    record { unarmed = was; may_run = fits.1; keeps = arm_keeps g c l t r fits.0 was undone }
