-- Each part of the rule by itself: what a step has to show for it.
use Rattle.std.proofs.Common.{◌≡◌, ℕ, ◌+◌, ◌-◌, ◌<◌, ◌≤◌, ◌≢◌, true, cond, List, [], ◌∷◌, get_or, All, Contains, refl, sym, ap, ◌∙◌, ⊎_elim, arith, eq-eqb, ne_eqb}
use Rattle.std.specs.Int.{bit_at}
use Rattle.std.proofs.lemmas.List.Elements.{All-nil, All-cons, All-contains, Contains-get_or}
use Rattle.plural_order.specs.Sums.{sum_below, sum_over, sign, masked, times}
use Rattle.plural_order.specs.TaskGraph.{TaskGraph, IsTaskGraph}
use Rattle.plural_order.proofs.Sums.{below_same}
use Rattle.plural_counters.specs.Duties.{phase_of, unarmed_of, uncounted_of, pending_of, unflagged_of, counted_of, marked_of, HasEnded, MayRun}
use Rattle.plural_counters.specs.Counters.{Counters, running, Fits, IsCounted}
use Rattle.plural_counters.specs.Steps.{set_at, IsSame, Replaces}
use Rattle.plural_counters.proofs.Duties.{IsPhaseAlone}
use Rattle.plural_counters.specs.declared.duty.Duty.{Duty}
use Rattle.plural_counters.specs.declared.duty.Duty.TheVariants.{Flag, Count, Close, Tell, Decide, Arm, Told}

-- ---- words

-- The word that is set.
pub set_here : (f : ℕ → ℕ) (t n u : ℕ) → u ≡ t → set_at f t n u ≡ n
set_here f t n u e = ap (λ b. cond b n (f u)) (eq-eqb u t e)

-- Every other word.
pub set_else : (f : ℕ → ℕ) (t n u : ℕ) → u ≢ t → set_at f t n u ≡ f u
set_else f t n u ne = ap (λ b. cond b n (f u)) (ne_eqb u t ne)

-- What a step may do to the counters without a duty that stays being wrong: what is done stays done, what is armed
-- stays armed, and what has nothing left stays so.
pub record Grows (g : TaskGraph) (c d : Counters) : Type 0 where
  pub done : (t k : ℕ) → g.ran t k ≡ true → 0 < c.done t k → 0 < d.done t k
  pub alloc : (t : ℕ) → t < g.tasks → c.alloc t ≤ d.alloc t
  pub left : (t : ℕ) → t < g.tasks → c.left t ≡ 0 → d.left t ≡ 0

-- So it is if what is done stays as it is.
pub grows_by : (g : TaskGraph) (c d : Counters) → IsTaskGraph g → ((t k : ℕ) → t < g.tasks → k < g.quota t → d.done t k ≡ c.done t k) → ((t : ℕ) → t < g.tasks → c.alloc t ≤ d.alloc t) → ((t : ℕ) → t < g.tasks → c.left t ≡ 0 → d.left t ≡ 0) → Grows g c d
grows_by g c d graph done alloc left = record {
  done = λ t k ran h. let i = graph.ran_instances t k ran in omega (arith, done t k i.0 i.1);
  alloc = alloc;
  left = left;
}

-- Counters of which the same is done have as many done.
pub same_count : (g : TaskGraph) (c d : Counters) (t : ℕ) → ((k : ℕ) → k < g.quota t → d.done t k ≡ c.done t k) → sum_below (λ k. sign (d.done t k)) (g.quota t) ≡ sum_below (λ k. sign (c.done t k)) (g.quota t)
same_count g c d t same = below_same (λ k. sign (d.done t k)) (λ k. sign (c.done t k)) (g.quota t) (λ k few. ap sign (same k few))

-- What has ended has.
pub ended_later : (g : TaskGraph) (c d : Counters) (t : ℕ) → Grows g c d → HasEnded g c.done t → HasEnded g d.done t
ended_later g c d t grows p = record { own = λ k r. grows.done t k r (p.own k r); earlier = λ u l r b. grows.done u l r (p.earlier u l r b) }

run_later : (g : TaskGraph) (c d : Counters) (t : ℕ) → Grows g c d → MayRun g c.done t → MayRun g d.done t
run_later g c d t grows p = record { runs = p.runs; earlier = λ u l r b. grows.done u l r (p.earlier u l r b) }

fits_later : (g : TaskGraph) (c d : Counters) → Grows g c d → (p : Duty) → Fits g c p → Fits g d p
fits_later g c d grows (Flag t k) h = h
fits_later g c d grows (Count t k) h = h
fits_later g c d grows (Close t) h = (h.0, omega (arith, h.1, grows.alloc t h.0), grows.left t h.0 h.2)
fits_later g c d grows (Tell t o e x) h = (h.0, h.1, h.2, ended_later g c d t grows h.3)
fits_later g c d grows (Decide t) h = h
fits_later g c d grows (Arm t) h = (h.0, run_later g c d t grows h.1)
fits_later g c d grows (Told t o) h = (h.0, h.1, ended_later g c d t grows h.2)

-- ---- one duty

-- A list of one duty that fits.
pub all_one : (P : Duty → Type 0) (p : Duty) → P p → All P (p ∷ [])
all_one P p h = All-cons P p [] h (All-nil P)

-- It has that duty.
pub one_there : (p : Duty) → Contains (p ∷ []) p
one_there p = (0, omega arith, refl)

-- ---- parts

module _ (g : TaskGraph) (c d : Counters) (l m old new : List Duty) (step : Replaces l m old new) (r : IsCounted g c l) where
  pub phase_kept : ((t : ℕ) → t < g.tasks → sign (d.open_deps t) + sum_over (phase_of t) new + running (d.alloc t) (d.left t) ≡ sign (c.open_deps t) + sum_over (phase_of t) old + running (c.alloc t) (c.left t))
      → (t : ℕ) → t < g.tasks → sign (d.open_deps t) + sum_over (phase_of t) m + running (d.alloc t) (d.left t) ≡ 1
  phase_kept h t small = omega (arith, h t small, r.phase t small, step.sums (phase_of t))

  pub unarmed_kept : ((t : ℕ) → t < g.tasks → sign (d.open_deps t) + sum_over (unarmed_of t) new + sign (d.alloc t) ≤ sign (c.open_deps t) + sum_over (unarmed_of t) old + sign (c.alloc t))
      → (t : ℕ) → t < g.tasks → sign (d.open_deps t) + sum_over (unarmed_of t) m + sign (d.alloc t) ≤ 1
  unarmed_kept h t small = omega (arith, h t small, r.unarmed t small, step.sums (unarmed_of t))

  pub pending_kept : ((t k : ℕ) → t < g.tasks → k < g.quota t → sum_over (pending_of t k) new + sign (c.done t k) ≤ sum_over (pending_of t k) old + sign (d.done t k))
      → (t k : ℕ) → t < g.tasks → k < g.quota t → sum_over (pending_of t k) m ≤ sign (d.done t k)
  pending_kept h t k small few = omega (arith, h t k small few, r.pending t k small few, step.sums (pending_of t k))

  pub left_kept : ((t : ℕ) → t < g.tasks → d.left t + sum_below (λ k. sign (d.done t k)) (g.quota t) + sum_over (uncounted_of t) old ≡ c.left t + sum_below (λ k. sign (c.done t k)) (g.quota t) + sum_over (uncounted_of t) new)
      → (t : ℕ) → t < g.tasks → d.left t + sum_below (λ k. sign (d.done t k)) (g.quota t) ≡ g.quota t + sum_over (uncounted_of t) m
  left_kept h t small = omega (arith, h t small, r.left t small, step.sums (uncounted_of t))

  pub flags_kept : ((t : ℕ) → t < g.tasks → d.flags t ≡ c.flags t) → ((t k : ℕ) → t < g.tasks → k < g.quota t → sign (d.done t k) + sum_over (unflagged_of t k) old ≡ sign (c.done t k) + sum_over (unflagged_of t k) new)
      → (t i : ℕ) → t < g.tasks → bit_at (d.flags t) i ≡ sign (sum_below (λ k. masked (sign (d.done t k) - sum_over (unflagged_of t k) m) (bit_at (g.ends t k) i)) (g.quota t))
  flags_kept h same t i small = ap (λ n. bit_at n i) (h t small) ∙ (r.flags t i small ∙ ap sign (below_same _ _ (g.quota t)
      (λ k few. ap (λ n. masked n (bit_at (g.ends t k) i)) (omega (arith, same t k small few, step.sums (unflagged_of t k))))))

  pub open_kept : ((u : ℕ) → u < g.tasks → d.open_deps u ≡ c.open_deps u) → ((t u : ℕ) → sum_over (counted_of g t u) new ≡ sum_over (counted_of g t u) old)
      → (u : ℕ) → u < g.tasks → d.open_deps u ≡ sum_below (λ t. times u (g.successors t) - sum_over (counted_of g t u) m) g.tasks
  open_kept h same u small = h u small ∙ (r.open_deps u small ∙ below_same _ _ g.tasks (λ t few. omega (arith, same t u, step.sums (counted_of g t u))))

  pub state_kept : ((u : ℕ) → u < g.tasks → d.state u ≡ c.state u) → ((t u : ℕ) → sum_over (marked_of g t u) new ≡ sum_over (marked_of g t u) old)
      → (u i : ℕ) → u < g.tasks → bit_at (d.state u) i ≡ sign (sum_below (λ t. masked (sum_over (marked_of g t u) m) (bit_at (g.edges t u) i)) g.tasks)
  state_kept h same u i small = ap (λ n. bit_at n i) (h u small) ∙ (r.state u i small ∙ ap sign (below_same _ _ g.tasks
      (λ t few. ap (λ n. masked n (bit_at (g.edges t u) i)) (omega (arith, same t u, step.sums (marked_of g t u))))))

  pub fits_kept : Grows g c d → All (Fits g d) new → All (Fits g d) m
  fits_kept grows fresh i x h = fits (get_or m i x) (Contains-get_or m i x h)
    where
      fits : (p : Duty) → Contains m p → Fits g d p
      fits p there = ⊎_elim (λ n. All-contains (Fits g d) new p fresh n) (λ w. fits_later g c d grows p (All-contains (Fits g c) l p r.fits w)) (step.kept p there)

-- The duty that goes fits.
pub goes_fits : (g : TaskGraph) (c : Counters) (l m new : List Duty) (p : Duty) → Replaces l m (p ∷ []) new → IsCounted g c l → Fits g c p
goes_fits g c l m new p step r = All-contains (Fits g c) l p r.fits (step.had p (one_there p))

-- ---- steps whose duties say phases alone

-- The counters d say the same as c but of alloc, which is no less.
pub record IsSameButAlloc (g : TaskGraph) (c d : Counters) : Type 0 where
  pub alloc : (t : ℕ) → t < g.tasks → c.alloc t ≤ d.alloc t
  pub done : (t k : ℕ) → t < g.tasks → k < g.quota t → d.done t k ≡ c.done t k
  pub flags : (t : ℕ) → t < g.tasks → d.flags t ≡ c.flags t
  pub left : (t : ℕ) → t < g.tasks → d.left t ≡ c.left t
  pub state : (t : ℕ) → t < g.tasks → d.state t ≡ c.state t
  pub open_deps : (t : ℕ) → t < g.tasks → d.open_deps t ≡ c.open_deps t

-- So it is of counters that say the same.
pub same_alloc : (g : TaskGraph) (c d : Counters) → IsSame g c d → IsSameButAlloc g c d
same_alloc g c d s = record { alloc = λ t small. omega (arith, s.alloc t small); done = s.done; flags = s.flags; left = s.left; state = s.state; open_deps = s.open_deps }

-- A step keeps the rule if its duties say phases alone, it changes no word but alloc, and each task is in as many phases
-- as before and no more often unarmed.
pub phase_keeps : (g : TaskGraph) (c d : Counters) (l m old new : List Duty) → Replaces l m old new → IsCounted g c l → IsSameButAlloc g c d → IsPhaseAlone g old → IsPhaseAlone g new
    → ((t : ℕ) → t < g.tasks → sum_over (phase_of t) new + running (d.alloc t) (c.left t) ≡ sum_over (phase_of t) old + running (c.alloc t) (c.left t))
    → ((t : ℕ) → t < g.tasks → sum_over (unarmed_of t) new + sign (d.alloc t) ≤ sum_over (unarmed_of t) old + sign (c.alloc t))
    → (Grows g c d → All (Fits g d) new) → IsCounted g d m
phase_keeps g c d l m old new step r s was now phase unarmed fits =
    let grows : Grows g c d = grows_by g c d r.graph s.done s.alloc (λ t small z. omega (arith, s.left t small)) in
    record {
      graph = r.graph;
      phase = phase_kept g c d l m old new step r (λ t small. omega (arith, phase t small, ap sign (s.open_deps t small), ap (λ n. running (d.alloc t) n) (s.left t small)));
      unarmed = unarmed_kept g c d l m old new step r (λ t small. omega (arith, unarmed t small, ap sign (s.open_deps t small)));
      pending = pending_kept g c d l m old new step r (λ t k small few. omega (arith, was.pending t k, now.pending t k, ap sign (s.done t k small few)));
      left = left_kept g c d l m old new step r (λ t small. omega (arith, was.uncounted t, now.uncounted t, same_count g c d t (λ k few. s.done t k small few), s.left t small));
      flags = flags_kept g c d l m old new step r s.flags (λ t k small few. omega (arith, was.unflagged t k, now.unflagged t k, ap sign (s.done t k small few)));
      open_deps = open_kept g c d l m old new step r s.open_deps (λ t u. now.counted t u ∙ sym (was.counted t u));
      state = state_kept g c d l m old new step r s.state (λ t u. now.marked t u ∙ sym (was.marked t u));
      fits = fits_kept g c d l m old new step r grows (fits grows);
    }
