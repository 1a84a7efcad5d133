-- The counters, and the rule: what they say by the duties of all views.
use Rattle.std.specs.Prelude.{◌≡◌, ℕ, ◌+◌, ◌-◌, ◌<◌, ◌≤◌, ◌==◌, cond, List, [], ◌∷◌, ◌++◌, length}
use Rattle.std.specs.List.{All}
use Rattle.std.specs.Int.{bit_at}
use Rattle.plural_order.specs.Sums.{sum_below, sum_over, sign, masked, times}
use Rattle.plural_order.specs.TaskGraph.{TaskGraph, IsTaskGraph}
use Rattle.plural_counters.specs.Duties.{phase_of, unarmed_of, uncounted_of, pending_of, unflagged_of, counted_of}
use Rattle.plural_counters.specs.Duties.{marked_of, HasEnded, MayRun, IsOfGraph}
use Rattle.plural_counters.specs.declared.duty.Duty.{Duty}
use Rattle.plural_counters.specs.declared.duty.Duty.TheVariants.{Flag, Count, Close, Tell, Decide, Arm, Told}

-- What the words say. Of task t: alloc is 0 until it is armed, and then one more than how many of its instances were
-- handed out; flags has the bits of the ends of its flagged instances; left is how many of its instances aren't
-- counted; state has the bits of its marked dependencies; open_deps is how many of its dependencies aren't counted.
-- done isn't 0 if instance k of task t is done.
pub record Counters : Type 0 where
  pub alloc : (t : ℕ) → ℕ
  pub done : (t k : ℕ) → ℕ
  pub flags : (t : ℕ) → ℕ
  pub left : (t : ℕ) → ℕ
  pub state : (t : ℕ) → ℕ
  pub open_deps : (t : ℕ) → ℕ

-- 1 if a task is armed and has an instance that isn't counted, else 0.
abbrev pub running : (alloc left : ℕ) → ℕ
running alloc left = masked alloc (sign left)

-- The duty fits the graph and the counters: a task to be closed is armed and has nothing left to count; one that is
-- told has ended; one to be armed may run.
abbrev pub Fits : TaskGraph → Counters → Duty → Type 0
Fits g c (Flag t k) = (t < g.tasks) × (k < g.quota t)
Fits g c (Count t k) = (t < g.tasks) × (k < g.quota t)
Fits g c (Close t) = (t < g.tasks) × (1 ≤ c.alloc t) × (c.left t ≡ 0)
Fits g c (Tell t o e h) = (t < g.tasks) × (o ≡ g.outcome t) × (e < length (g.successors t)) × HasEnded g c.done t
Fits g c (Decide t) = t < g.tasks
Fits g c (Arm t) = (t < g.tasks) × MayRun g c.done t
Fits g c (Told t o) = (t < g.tasks) × (o ≡ g.outcome t) × HasEnded g c.done t

-- The rule, over the duties of all views.
pub record IsCounted (g : TaskGraph) (c : Counters) (l : List Duty) : Type 0 where
  -- The tasks are a graph.
  pub graph : IsTaskGraph g
  -- Each task is in one phase: some of its dependencies are open, or a duty says its phase, or it runs.
  pub phase : (t : ℕ) → t < g.tasks
      → sign (c.open_deps t) + sum_over (phase_of t) l + running (c.alloc t) (c.left t) ≡ 1
  -- A task that has open dependencies or is to be decided or armed isn't armed.
  pub unarmed : (t : ℕ) → t < g.tasks → sign (c.open_deps t) + sum_over (unarmed_of t) l + sign (c.alloc t) ≤ 1
  -- An instance is to be flagged or counted only if it is done, and once.
  pub pending : (t k : ℕ) → t < g.tasks → k < g.quota t → sum_over (pending_of t k) l ≤ sign (c.done t k)
  -- What is left of a task are its instances but those that are done and neither to be flagged nor to be counted.
  pub left : (t : ℕ) → t < g.tasks
      → c.left t + sum_below (λ k. sign (c.done t k)) (g.quota t) ≡ g.quota t + sum_over (uncounted_of t) l
  -- A bit of a task's flags is 1 exactly if it is one of the end of an instance that is done and not to be flagged.
  pub flags : (t i : ℕ) → t < g.tasks → bit_at (c.flags t) i ≡ sign (sum_below
      (λ k. masked (sign (c.done t k) - sum_over (unflagged_of t k) l) (bit_at (g.ends t k) i)) (g.quota t))
  -- A task's open dependencies are those that aren't counted.
  pub open_deps : (u : ℕ) → u < g.tasks
      → c.open_deps u ≡ sum_below (λ t. times u (g.successors t) - sum_over (counted_of g t u) l) g.tasks
  -- A bit of a task's state is 1 exactly if it is one of a marked dependency.
  pub state : (u i : ℕ) → u < g.tasks → bit_at (c.state u) i
      ≡ sign (sum_below (λ t. masked (sum_over (marked_of g t u) l) (bit_at (g.edges t u) i)) g.tasks)
  -- Each duty fits the graph and the counters.
  pub fits : All (Fits g c) l

-- The duties of all views, one view after another.
abbrev pub duties_of : {V : Type 0} → (duties : V → List Duty) → List V → List Duty
duties_of duties [] = []
duties_of duties (v ∷ vs) = duties v ++ duties_of duties vs

-- The rule, over views that tell their duties.
abbrev pub Counted : {V : Type 0} → (duties : V → List Duty) → TaskGraph → Counters → List V → Type 0
Counted duties g c views = IsCounted g c (duties_of duties views)

-- What is so of the duties of one view: they say one phase at most of each task, so the tasks of its duties and those
-- that it was told all differ; and each duty is of the graph.
pub record IsSound (g : TaskGraph) (l : List Duty) : Type 0 where
  pub apart : (t : ℕ) → t < g.tasks → sum_over (phase_of t) l ≤ 1
  pub of_graph : All (IsOfGraph g) l

-- Counters before any step: a task without dependencies is armed, and no other; nothing is done, flagged or marked;
-- what is left of a task are all its instances, and all its dependencies are open.
abbrev pub first_counters : TaskGraph → Counters
first_counters g = record {
  alloc = λ t. cond (g.deps t == 0) 1 0;
  done = λ t k. 0;
  flags = λ t. 0;
  left = g.quota;
  state = λ t. 0;
  open_deps = g.deps;
}
