-- The duties of one view are of tasks that all differ: there is room for them, and their progress is bounded.
use Rattle.std.proofs.Common.{◌≡◌, ℕ, ◌+◌, ◌<◌, ◌≤◌, List, [], ◌∷◌, length, get_or, All, refl, ap, arith}
use mathlib.Core.Logic.{dite}
use native.Mathlib.Decide.{ℕ_discrete}
use Rattle.std.proofs.lemmas.List.Elements.{All-head, All-tail, All-contains, Contains-get_or}
use Rattle.plural_order.specs.Sums.{sum_below, sum_over, one_if, masked}
use Rattle.plural_order.specs.TaskGraph.{TaskGraph}
use Rattle.plural_order.proofs.Sums.{below_add}
use Rattle.plural_counters.specs.Duties.{phase_of, phases_of, progress_of, IsOfGraph}
use Rattle.plural_counters.specs.Counters.{Counters, Fits, IsSound}
use Rattle.plural_counters.specs.Laws.{ViewsAreSound, RoomForPhases, ProgressBounded}
use Rattle.plural_counters.specs.declared.duty.Duty.{Duty}
use Rattle.plural_counters.specs.declared.duty.Duty.TheVariants.{Flag, Count, Close, Tell, Decide, Arm, Told}
use Rattle.plural_counters.proofs.Sums.{one_same, mask_shut, mask_open, mask_le, term_at, below_term, below_le, below_ones}
use Rattle.plural_counters.proofs.Views.{duties_sum, duty_there}

of_graph : (g : TaskGraph) (c : Counters) (p : Duty) → Fits g c p → IsOfGraph g p
of_graph g c (Flag t k) h = h
of_graph g c (Count t k) h = h
of_graph g c (Close t) h = h.0
of_graph g c (Tell t o e x) h = (h.0, h.1, h.2)
of_graph g c (Decide t) h = h
of_graph g c (Arm t) h = h.0
of_graph g c (Told t o) h = (h.0, h.1)

-- Under the rule the duties of each view are sound.
pub views_are_sound : {V : Type 0} → ViewsAreSound V
views_are_sound {V} duties g c views id v r at = record {
  apart = λ t small. omega (arith, r.phase t small, duties_sum duties (phase_of t) views, term_at (λ (x : V). sum_over (phase_of t) (duties x)) views id v at);
  of_graph = λ i x h. let p = get_or (duties v) i x in of_graph g c p (All-contains (Fits g c) _ p r.fits (duty_there duties views id v p at (Contains-get_or (duties v) i x h)));
}

-- The sum over duties, task by task.
spread : (g : TaskGraph) (f : Duty → ℕ) (h : ℕ → ℕ) (l : List Duty) → All (IsOfGraph g) l → ((p : Duty) → IsOfGraph g p → f p ≤ sum_below (λ t. masked (phase_of t p) (h t)) g.tasks) → sum_over f l ≤ sum_below (λ t. sum_over (λ p. masked (phase_of t p) (h t)) l) g.tasks
spread g f h [] a each = omega arith
spread g f h (x ∷ xs) a each = omega (arith, each x (All-head (IsOfGraph g) x xs a), spread g f h xs (All-tail (IsOfGraph g) x xs a) each, below_add (λ t. masked (phase_of t x) (h t)) (λ t. sum_over (λ p. masked (phase_of t p) (h t)) xs) g.tasks)

-- Of duties of which one at most is a task's phase, one at most is let through.
masks : (t n : ℕ) (l : List Duty) → sum_over (phase_of t) l ≤ 1 → sum_over (λ p. masked (phase_of t p) n) l ≤ masked (sum_over (phase_of t) l) n
masks t n [] h = omega arith
masks t n (x ∷ xs) h = let rest = masks t n xs (omega arith) in dite (ℕ_discrete (phase_of t x) 0)
    (λ z. omega (arith, mask_shut (phase_of t x) n z, ap (λ y. masked y n) (same_sum (phase_of t x) (sum_over (phase_of t) xs) z), rest))
    (λ ne. omega (arith, mask_le (phase_of t x) n, mask_open (phase_of t x + sum_over (phase_of t) xs) n (omega arith), rest, mask_shut (sum_over (phase_of t) xs) n (omega arith)))
  where
    same_sum : (a b : ℕ) → a ≡ 0 → a + b ≡ b
    same_sum a b z = omega (arith, z)

-- What each duty counts at its own task at most h counts in all at most the sum of h.
bounded : (g : TaskGraph) (f : Duty → ℕ) (h : ℕ → ℕ) (l : List Duty) → IsSound g l → ((p : Duty) → IsOfGraph g p → f p ≤ sum_below (λ t. masked (phase_of t p) (h t)) g.tasks) → sum_over f l ≤ sum_below h g.tasks
bounded g f h l s each =
    omega (arith, spread g f h l s.of_graph each, below_le (λ t. sum_over (λ p. masked (phase_of t p) (h t)) l) h g.tasks (λ t small. omega (arith, masks t (h t) l (s.apart t small), mask_le (sum_over (phase_of t) l) (h t))))

at_task : (h : ℕ → ℕ) (t n m : ℕ) → t < n → m ≤ h t → m ≤ sum_below (λ u. masked (one_if t u) (h u)) n
at_task h t n m small le = omega (arith, below_term (λ u. masked (one_if t u) (h u)) n t small, mask_open (one_if t t) (h t) (omega (arith, one_same t t refl)), le)

-- Sound duties say no more phases than there are tasks.
pub room_for_phases : RoomForPhases
room_for_phases g l s = omega (arith, bounded g phases_of (λ t. 1) l s each, below_ones (λ t. 1) g.tasks (λ t h. refl))
  where
    each : (p : Duty) → IsOfGraph g p → phases_of p ≤ sum_below (λ t. masked (phase_of t p) 1) g.tasks
    each (Flag t k) ok = omega arith
    each (Count t k) ok = omega arith
    each (Close t) ok = at_task (λ t. 1) t g.tasks 1 ok (omega arith)
    each (Tell t o e x) ok = at_task (λ t. 1) t g.tasks 1 ok.0 (omega arith)
    each (Decide t) ok = at_task (λ t. 1) t g.tasks 1 ok (omega arith)
    each (Arm t) ok = at_task (λ t. 1) t g.tasks 1 ok (omega arith)
    each (Told t o) ok = at_task (λ t. 1) t g.tasks 1 ok.0 (omega arith)

-- Their progress is bounded.
pub progress_bounded : ProgressBounded
progress_bounded g l s = bounded g (progress_of g) (λ t. length (g.successors t) + 1) l s each
  where
    each : (p : Duty) → IsOfGraph g p → progress_of g p ≤ sum_below (λ t. masked (phase_of t p) (length (g.successors t) + 1)) g.tasks
    each (Flag t k) ok = omega arith
    each (Count t k) ok = omega arith
    each (Close t) ok = omega arith
    each (Tell t o e x) ok = at_task (λ t. length (g.successors t) + 1) t g.tasks (e + 1) ok.0 (omega (arith, ok.2))
    each (Decide t) ok = omega arith
    each (Arm t) ok = omega arith
    each (Told t o) ok = at_task (λ t. length (g.successors t) + 1) t g.tasks (length (g.successors t) + 1) ok.0 (omega arith)
