-- If nothing is owed and each armed task is done, each task was told.
use Rattle.std.proofs.Common.{◌≡◌, ℕ, zero, suc, ◌-◌, ◌<◌, ◌≤◌, List, All, Contains, refl, ap, ◌∙◌, subst, arith}
use mathlib.Core.Logic.{dite}
use native.Mathlib.Decide.{ℕ_discrete}
use Rattle.std.proofs.lemmas.List.Elements.{All-contains}
use Rattle.plural_map.specs.declared.outcome.Outcome.{Outcome}
use Rattle.plural_order.specs.Sums.{sum_below, sum_over, sign, times}
use Rattle.plural_order.specs.TaskGraph.{TaskGraph}
use Rattle.plural_order.proofs.Sums.{nonzero_some, some_nonzero, below_some}
use Rattle.plural_counters.specs.Duties.{phase_of, telling_of, uncounted_of, counted_of, IsTold}
use Rattle.plural_counters.specs.Counters.{Counters, running, Fits, IsCounted}
use Rattle.plural_counters.specs.Laws.{AllTold}
use Rattle.plural_counters.specs.declared.duty.Duty.{Duty}
use Rattle.plural_counters.specs.declared.duty.Duty.TheVariants.{Flag, Count, Close, Tell, Decide, Arm, Told}
use Rattle.plural_counters.proofs.Sums.{one_same, one_else, equal_same, sign_none, sign_some, mask_shut, mask_open, term_in, sum_le_each, sum_none, sum_some, below_ones}

phase_told : (t : ℕ) (p : Duty) → IsTold p → phase_of t p ≤ telling_of t p
phase_told t (Flag u k) h = omega arith
phase_told t (Count u k) h = omega arith
phase_told t (Close u) h = absurd h
phase_told t (Tell u o e x) h = omega arith
phase_told t (Decide u) h = absurd h
phase_told t (Arm u) h = absurd h
phase_told t (Told u o) h = omega arith

counted_told : (t : ℕ) (p : Duty) → IsTold p → uncounted_of t p ≤ 0
counted_told t (Flag u k) h = absurd h
counted_told t (Count u k) h = absurd h
counted_told t (Close u) h = omega arith
counted_told t (Tell u o e x) h = omega arith
counted_told t (Decide u) h = omega arith
counted_told t (Arm u) h = omega arith
counted_told t (Told u o) h = omega arith

edge_told : (g : TaskGraph) (x t : ℕ) → 1 ≤ times t (g.successors x) → (p : Duty) → IsTold p → telling_of x p ≤ counted_of g x t p
edge_told g x t n (Flag u k) h = omega arith
edge_told g x t n (Count u k) h = omega arith
edge_told g x t n (Close u) h = omega arith
edge_told g x t n (Tell u o e y) h = absurd h
edge_told g x t n (Decide u) h = omega arith
edge_told g x t n (Arm u) h = omega arith
edge_told g x t n (Told u o) h = dite (ℕ_discrete u x) (λ e. omega (arith, one_same u x e, equal_same u x (times t (g.successors x)) e, n)) (λ ne. omega (arith, one_else u x ne))

module _ (g : TaskGraph) (c : Counters) (l : List Duty) (r : IsCounted g c l) (idle : All IsTold l) (ended : (t k : ℕ) → t < g.tasks → 1 ≤ c.alloc t → k < g.quota t → 0 < c.done t k) where
  not_running : (t : ℕ) → t < g.tasks → running (c.alloc t) (c.left t) ≡ 0
  not_running t small = dite (ℕ_discrete (c.alloc t) 0) (λ z. mask_shut (c.alloc t) (sign (c.left t)) z)
      (λ ne.
      let full : sum_below (λ k. sign (c.done t k)) (g.quota t) ≡ g.quota t = below_ones (λ k. sign (c.done t k)) (g.quota t) (λ k h. sign_some (c.done t k) (ended t k small (omega arith) h)) in
      let left : c.left t ≡ 0 = omega (arith, r.left t small, full, sum_le_each IsTold (uncounted_of t) (λ p. 0) l idle (counted_told t), sum_none (λ (p : Duty). 0) l (λ p. refl)) in
      mask_open (c.alloc t) (sign (c.left t)) (omega arith) ∙ sign_none (c.left t) left)

  -- Each task of a rank below n was told.
  told_below : (n t : ℕ) → g.rank t < n → t < g.tasks → 1 ≤ sum_over (telling_of t) l
  told_below zero t h small = absurd (omega arith)
  told_below (suc n) t h small =
      let same = sum_le_each IsTold (phase_of t) (telling_of t) l idle (phase_told t) in
      dite (ℕ_discrete (c.open_deps t) 0)
      (λ z. omega (arith, same, r.phase t small, not_running t small, sign_none (c.open_deps t) z))
      (λ ne.
      let f : ℕ → ℕ = λ x. times t (g.successors x) - sum_over (counted_of g x t) l in
      let some_edge = below_some f g.tasks (nonzero_some (sum_below f g.tasks) (omega (arith, r.open_deps t small))) in
      let x = some_edge.0 in
      let some = some_nonzero (f x) some_edge.2 in
      let depends : 1 ≤ times t (g.successors x) = omega (arith, some) in
      let told = told_below n x (omega (arith, g_rises x depends, h)) some_edge.1 in
      absurd (omega (arith, told, some, r.graph.successor_once x t, sum_le_each IsTold (telling_of x) (counted_of g x t) l idle (edge_told g x t depends))))
    where
      g_rises : (x : ℕ) → 1 ≤ times t (g.successors x) → g.rank x < g.rank t
      g_rises x d = r.graph.rises x t d

-- Each task was told, once, with its outcome in the graph.
pub all_told : AllTold
all_told g c l r idle ended t small =
    let some = told_below g c l r idle ended (suc (g.rank t)) t (omega arith) small in
    let p = sum_some (telling_of t) l some in
    let told = from p.0 p.2 (All-contains IsTold l p.0 idle p.1) (All-contains (Fits g c) l p.0 r.fits p.1) in
    let there : Contains l (Told t (g.outcome t)) = subst (λ (q : Duty). Contains l q) told p.1 in
    record { told = there; once = omega (arith, term_in (phase_of t) l (Told t (g.outcome t)) there, one_same t t refl, r.phase t small) }
  where
    from : (p : Duty) → 1 ≤ telling_of t p → IsTold p → Fits g c p → p ≡ Told t (g.outcome t)
    from (Flag u k) n i ok = absurd i
    from (Count u k) n i ok = absurd i
    from (Close u) n i ok = absurd i
    from (Tell u o e h) n i ok = absurd i
    from (Decide u) n i ok = absurd i
    from (Arm u) n i ok = absurd i
    from (Told u o) n i ok = dite (ℕ_discrete u t)
        (λ e. ap (λ (x : Outcome). Told u x) ok.1 ∙ ap (λ (x : ℕ). Told x (g.outcome x)) e)
        (λ ne. absurd (omega (arith, one_else u t ne)))
