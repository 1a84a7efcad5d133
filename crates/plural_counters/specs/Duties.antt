-- What each duty counts for in sums over the duties of all views, and what has to hold for it to be owed.
use Rattle.std.specs.Prelude.{◌≡◌, ℕ, ◌+◌, ◌<◌, ◌==◌, Bool, true, cond, length, take, ⊤}
use Rattle.plural_order.specs.Sums.{one_if, times}
use Rattle.plural_order.specs.TaskGraph.{TaskGraph}
use Rattle.plural_counters.specs.declared.duty.Duty.{Duty}
use Rattle.plural_counters.specs.declared.duty.Duty.TheVariants.{Flag, Count, Close, Tell, Decide, Arm, Told}

-- n if the numbers are equal, else 0.
abbrev pub if_equal : (x y n : ℕ) → ℕ
if_equal x y n = cond (x == y) n 0

-- 1 if the pairs (u, l) and (t, k) are equal, else 0.
abbrev pub one_if_pair : (u l t k : ℕ) → ℕ
one_if_pair u l t k = if_equal u t (one_if l k)

-- 1 if yes, else 0.
abbrev pub one_of : Bool → ℕ
one_of b = cond b 1 0

-- ---- what a duty says, each 1 if it does, else 0

-- Task t is to be closed, told, decided or armed, or was told: the phase that it is in.
abbrev pub phase_of : (t : ℕ) → Duty → ℕ
phase_of t (Close u) = one_if u t
phase_of t (Tell u o e h) = one_if u t
phase_of t (Decide u) = one_if u t
phase_of t (Arm u) = one_if u t
phase_of t (Told u o) = one_if u t
phase_of t _ = 0

-- Task t is to be decided or to be armed.
abbrev pub unarmed_of : (t : ℕ) → Duty → ℕ
unarmed_of t (Decide u) = one_if u t
unarmed_of t (Arm u) = one_if u t
unarmed_of t _ = 0

-- Task t is being told, or was told.
abbrev pub telling_of : (t : ℕ) → Duty → ℕ
telling_of t (Tell u o e h) = one_if u t
telling_of t (Told u o) = one_if u t
telling_of t _ = 0

-- An instance of task t is to be flagged or counted.
abbrev pub uncounted_of : (t : ℕ) → Duty → ℕ
uncounted_of t (Flag u l) = one_if u t
uncounted_of t (Count u l) = one_if u t
uncounted_of t _ = 0

-- Instance k of task t is to be flagged or counted.
abbrev pub pending_of : (t k : ℕ) → Duty → ℕ
pending_of t k (Flag u l) = one_if_pair u l t k
pending_of t k (Count u l) = one_if_pair u l t k
pending_of t k _ = 0

-- Instance k of task t is to be flagged.
abbrev pub unflagged_of : (t k : ℕ) → Duty → ℕ
unflagged_of t k (Flag u l) = one_if_pair u l t k
unflagged_of t k _ = 0

-- It says some phase.
abbrev pub phases_of : Duty → ℕ
phases_of (Flag t k) = 0
phases_of (Count t k) = 0
phases_of _ = 1

-- How often task u stands among the first m successors of task t.
abbrev pub reached : TaskGraph → (t u m : ℕ) → ℕ
reached g t u m = times u (take m (g.successors t))

-- The dependency of task u on task t is counted: t was told, or is being told beyond the place of u.
abbrev pub counted_of : TaskGraph → (t u : ℕ) → Duty → ℕ
counted_of g t u (Tell x o e h) = if_equal x t (reached g t u e)
counted_of g t u (Told x o) = if_equal x t (times u (g.successors t))
counted_of g t u _ = 0

-- The dependency of task u on task t is marked: it is counted, or t is being told at the place of u, and marked there.
abbrev pub marked_of : TaskGraph → (t u : ℕ) → Duty → ℕ
marked_of g t u (Tell x o e h) = if_equal x t (reached g t u (e + one_of h))
marked_of g t u (Told x o) = if_equal x t (times u (g.successors t))
marked_of g t u _ = 0

-- ---- how far a duty has told its task

-- One more than the successors that the task was told to; 0 if it isn't being told.
abbrev pub progress_of : TaskGraph → Duty → ℕ
progress_of g (Tell t o e h) = e + 1
progress_of g (Told t o) = length (g.successors t) + 1
progress_of g _ = 0

-- ---- what has to hold for a duty to be owed

-- Of task t, and of each task before it, all instances that run are done.
pub record HasEnded (g : TaskGraph) (done : (t k : ℕ) → ℕ) (t : ℕ) : Type 0 where
  pub own : (k : ℕ) → g.ran t k ≡ true → 0 < done t k
  pub earlier : (u l : ℕ) → g.ran u l ≡ true → g.before u t ≡ true → 0 < done u l

-- All instances of task t run, and those that run of each task before it are done.
pub record MayRun (g : TaskGraph) (done : (t k : ℕ) → ℕ) (t : ℕ) : Type 0 where
  pub runs : (k : ℕ) → k < g.quota t → g.ran t k ≡ true
  pub earlier : (u l : ℕ) → g.ran u l ≡ true → g.before u t ≡ true → 0 < done u l

-- The duty is of a task or an instance of the graph; a task is told its outcome in the graph, at the place of a
-- successor.
abbrev pub IsOfGraph : TaskGraph → Duty → Type 0
IsOfGraph g (Flag t k) = (t < g.tasks) × (k < g.quota t)
IsOfGraph g (Count t k) = (t < g.tasks) × (k < g.quota t)
IsOfGraph g (Close t) = t < g.tasks
IsOfGraph g (Tell t o e h) = (t < g.tasks) × (o ≡ g.outcome t) × (e < length (g.successors t))
IsOfGraph g (Decide t) = t < g.tasks
IsOfGraph g (Arm t) = t < g.tasks
IsOfGraph g (Told t o) = (t < g.tasks) × (o ≡ g.outcome t)

-- Nothing is owed: a task was told.
abbrev pub IsTold : Duty → Type 0
IsTold (Told t o) = ⊤
IsTold _ = ⊥
