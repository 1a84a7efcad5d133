-- What single duties count for, and the places of a task's successors.
use Rattle.std.proofs.Common.{◌≡◌, ℕ, zero, suc, ◌+◌, ◌<◌, ◌≤◌, List, [], ◌∷◌, length, take, slice_get, Some, unwrap_or, sym, refl, ap, ◌∙◌, arith}
use mathlib.Core.Logic.{dite}
use native.Mathlib.Decide.{ℕ_discrete}
use Rattle.plural_map.specs.declared.outcome.Outcome.{Outcome}
use Rattle.plural_order.specs.Sums.{sum_over, one_if, times}
use Rattle.plural_order.specs.TaskGraph.{TaskGraph}
use Rattle.plural_counters.specs.Duties.{if_equal, one_of, phase_of, unarmed_of, telling_of, uncounted_of, pending_of, unflagged_of, reached, counted_of, marked_of}
use Rattle.plural_counters.specs.Steps.{tell_first}
use Rattle.plural_counters.specs.declared.duty.Duty.{Duty}
use Rattle.plural_counters.specs.declared.duty.Duty.TheVariants.{Flag, Count, Close, Tell, Decide, Arm, Told}
use Rattle.plural_counters.proofs.Sums.{one_le, equal_same, equal_else, equal_le}

-- A task that is told is in a phase.
pub telling_phase : (t : ℕ) (p : Duty) → telling_of t p ≤ phase_of t p
telling_phase t (Flag u k) = omega arith
telling_phase t (Count u k) = omega arith
telling_phase t (Close u) = omega arith
telling_phase t (Tell u o e h) = omega arith
telling_phase t (Decide u) = omega arith
telling_phase t (Arm u) = omega arith
telling_phase t (Told u o) = omega arith

-- An instance that is to be flagged isn't counted.
pub unflagged_uncounted : (t k : ℕ) (p : Duty) → unflagged_of t k p ≤ uncounted_of t p
unflagged_uncounted t k (Flag u l) = equal_le u t (one_if l k) 1 (one_le l k)
unflagged_uncounted t k (Count u l) = omega arith
unflagged_uncounted t k (Close u) = omega arith
unflagged_uncounted t k (Tell u o e h) = omega arith
unflagged_uncounted t k (Decide u) = omega arith
unflagged_uncounted t k (Arm u) = omega arith
unflagged_uncounted t k (Told u o) = omega arith

-- It is pending.
pub unflagged_pending : (t k : ℕ) (p : Duty) → unflagged_of t k p ≤ pending_of t k p
unflagged_pending t k (Flag u l) = omega arith
unflagged_pending t k (Count u l) = omega arith
unflagged_pending t k (Close u) = omega arith
unflagged_pending t k (Tell u o e h) = omega arith
unflagged_pending t k (Decide u) = omega arith
unflagged_pending t k (Arm u) = omega arith
unflagged_pending t k (Told u o) = omega arith

-- ---- places of successors

some_same : (x y : ℕ) → Some x ≡ Some y → x ≡ y
some_same x y e = ap (λ o. unwrap_or o 0) e

times_suc : (l : List ℕ) (e u x : ℕ) → slice_get l e ≡ Some u → times x (take (suc e) l) ≡ times x (take e l) + one_if u x
times_suc [] e u x h = absurd cc
times_suc (y ∷ ys) zero u x h = omega (arith, ap (λ n. one_if n x) (some_same y u h))
times_suc (y ∷ ys) (suc e) u x h = omega (arith, times_suc ys e u x h)

-- A prefix with the task at the next place has it once more.
pub times_next : (l : List ℕ) (e u x : ℕ) → slice_get l e ≡ Some u → times x (take (e + 1) l) ≡ times x (take e l) + one_if u x
times_next l e u x h = let s : e + 1 ≡ suc e = omega arith in ap (λ n. times x (take n l)) s ∙ times_suc l e u x h

-- A prefix has a task no more often than the list.
pub times_take : (l : List ℕ) (m x : ℕ) → times x (take m l) ≤ times x l
times_take [] zero x = omega arith
times_take [] (suc m) x = omega arith
times_take (y ∷ ys) zero x = omega arith
times_take (y ∷ ys) (suc m) x = omega (arith, times_take ys m x)

times_more : (l : List ℕ) (m n x : ℕ) → m ≤ n → times x (take m l) ≤ times x (take n l)
times_more l zero n x h = omega arith
times_more l (suc m) zero x h = absurd (omega arith)
times_more [] (suc m) (suc n) x h = omega arith
times_more (y ∷ ys) (suc m) (suc n) x h = omega (arith, times_more ys m n x (omega arith))

-- A place in a list is below its length.
pub place_within : (l : List ℕ) (e u : ℕ) → slice_get l e ≡ Some u → e < length l
place_within [] e u h = absurd cc
place_within (y ∷ ys) zero u h = omega arith
place_within (y ∷ ys) (suc e) u h = omega (arith, place_within ys e u h)

module _ (g : TaskGraph) (t u : ℕ) where
  -- A counted dependency is marked.
  pub counted_marked : (p : Duty) → counted_of g t u p ≤ marked_of g t u p
  counted_marked (Flag x k) = omega arith
  counted_marked (Count x k) = omega arith
  counted_marked (Close x) = omega arith
  counted_marked (Tell x o e h) = equal_le x t _ _ (times_more (g.successors t) e (e + one_of h) u (omega arith))
  counted_marked (Decide x) = omega arith
  counted_marked (Arm x) = omega arith
  counted_marked (Told x o) = omega arith

  -- It is counted once, by the duty that tells its task.
  pub counted_telling : times u (g.successors t) ≤ 1 → (p : Duty) → counted_of g t u p ≤ telling_of t p
  counted_telling once (Flag x k) = omega arith
  counted_telling once (Count x k) = omega arith
  counted_telling once (Close x) = omega arith
  counted_telling once (Tell x o e h) = equal_le x t _ _ (omega (arith, once, times_take (g.successors t) e u))
  counted_telling once (Decide x) = omega arith
  counted_telling once (Arm x) = omega arith
  counted_telling once (Told x o) = equal_le x t _ _ once

  -- A dependency that there isn't is never marked.
  pub marked_none : times u (g.successors t) ≡ 0 → (p : Duty) → marked_of g t u p ≡ 0
  marked_none none (Flag x k) = refl
  marked_none none (Count x k) = refl
  marked_none none (Close x) = refl
  marked_none none (Tell x o e h) = dite (ℕ_discrete x t) (λ d. omega (arith, equal_same x t (reached g t u (e + one_of h)) d, none, times_take (g.successors t) (e + one_of h) u)) (λ ne. equal_else x t (reached g t u (e + one_of h)) ne)
  marked_none none (Decide x) = refl
  marked_none none (Arm x) = refl
  marked_none none (Told x o) = dite (ℕ_discrete x t) (λ d. equal_same x t _ d ∙ none) (λ ne. equal_else x t _ ne)

-- ---- duties that say phases alone

-- They say nothing of instances, and no dependency is counted or marked by them.
pub record IsPhaseAlone (g : TaskGraph) (l : List Duty) : Type 0 where
  pub uncounted : (x : ℕ) → sum_over (uncounted_of x) l ≡ 0
  pub pending : (x k : ℕ) → sum_over (pending_of x k) l ≡ 0
  pub unflagged : (x k : ℕ) → sum_over (unflagged_of x k) l ≡ 0
  pub counted : (x u : ℕ) → sum_over (counted_of g x u) l ≡ 0
  pub marked : (x u : ℕ) → sum_over (marked_of g x u) l ≡ 0

-- So it is of no duty.
pub alone_none : (g : TaskGraph) → IsPhaseAlone g []
alone_none g = record { uncounted = λ x. refl; pending = λ x k. refl; unflagged = λ x k. refl; counted = λ x u. refl; marked = λ x u. refl }

-- Of a task to be closed.
pub alone_close : (g : TaskGraph) (t : ℕ) → IsPhaseAlone g (Close t ∷ [])
alone_close g t = record { uncounted = λ x. refl; pending = λ x k. refl; unflagged = λ x k. refl; counted = λ x u. refl; marked = λ x u. refl }

-- Of a task to be decided.
pub alone_decide : (g : TaskGraph) (t : ℕ) → IsPhaseAlone g (Decide t ∷ [])
alone_decide g t = record { uncounted = λ x. refl; pending = λ x k. refl; unflagged = λ x k. refl; counted = λ x u. refl; marked = λ x u. refl }

-- Of a task to be armed.
pub alone_arm : (g : TaskGraph) (t : ℕ) → IsPhaseAlone g (Arm t ∷ [])
alone_arm g t = record { uncounted = λ x. refl; pending = λ x k. refl; unflagged = λ x k. refl; counted = λ x u. refl; marked = λ x u. refl }

-- And of a task that begins to be told.
pub alone_first : (g : TaskGraph) (t : ℕ) (o : Outcome) → IsPhaseAlone g (tell_first (g.successors t) t o)
alone_first g t o = by (g.successors t) refl
  where
    by : (l : List ℕ) → g.successors t ≡ l → IsPhaseAlone g (tell_first l t o)
    by [] e =
        let none : (x u : ℕ) → if_equal t x (times u (g.successors x)) ≡ 0 = λ x u. dite (ℕ_discrete t x)
        (λ q. omega (arith, equal_same t x (times u (g.successors x)) q, ap (λ (n : ℕ). times u (g.successors n)) (sym q), ap (times u) e))
        (λ q. equal_else t x (times u (g.successors x)) q) in
        record { uncounted = λ x. refl; pending = λ x k. refl; unflagged = λ x k. refl; counted = λ x u. omega (arith, none x u); marked = λ x u. omega (arith, none x u) }
    by (y ∷ ys) e =
        let none : (x u n : ℕ) → n ≡ 0 → if_equal t x (reached g x u n) ≡ 0 = λ x u n z. dite (ℕ_discrete t x)
        (λ q. equal_same t x (reached g x u n) q ∙ ap (λ (i : ℕ). reached g x u i) z)
        (λ q. equal_else t x (reached g x u n) q) in
        record { uncounted = λ x. refl; pending = λ x k. refl; unflagged = λ x k. refl; counted = λ x u. omega (arith, none x u 0 refl); marked = λ x u. omega (arith, none x u (0 + 0) refl) }

-- A task that begins to be told is in a phase.
pub first_phase : (t : ℕ) (o : Outcome) (l : List ℕ) (x : ℕ) → sum_over (phase_of x) (tell_first l t o) ≡ one_if t x
first_phase t o [] x = omega arith
first_phase t o (y ∷ ys) x = omega arith

-- It isn't to be armed.
pub first_unarmed : (t : ℕ) (o : Outcome) (l : List ℕ) (x : ℕ) → sum_over (unarmed_of x) (tell_first l t o) ≡ 0
first_unarmed t o [] x = refl
first_unarmed t o (y ∷ ys) x = refl
