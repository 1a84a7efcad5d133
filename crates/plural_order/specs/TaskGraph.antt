-- Tasks as counters see them: which depend on which, which instances run, how they end, and the outcomes.
use Rattle.std.specs.Prelude.{◌≡◌, ℕ, ◌<◌, ◌≤◌, ◌⊎◌, ◌==◌, Bool, true, false, cond, List}
use Rattle.std.specs.Int.{bit_at}
use Rattle.plural_map.specs.declared.outcome.Outcome.{Outcome}
use Rattle.plural_map.specs.declared.outcome.Outcome.TheVariants as outcome
use Rattle.plural_map.specs.declared.outcome.Decision.{Decision}
use Rattle.plural_map.specs.declared.outcome.Decision.TheVariants as decision
use Rattle.plural_order.specs.Sums.{sum_below, sign, masked, times}

-- How many tasks there are and how many instances each has; the tasks that depend on one, by rising number; how many
-- dependencies a task has, and whether one that is satisfied is enough; which instances run; which tasks come before
-- which; the bits of an instance's end; the bits of a dependency, that of the second task on the first; the outcome of
-- each task; and a rank, which is higher than those of the tasks that it depends on.
pub record TaskGraph : Type 0 where
  pub tasks : ℕ
  pub quota : (t : ℕ) → ℕ
  pub successors : (t : ℕ) → List ℕ
  pub deps : (u : ℕ) → ℕ
  pub some : (u : ℕ) → Bool
  pub ran : (t k : ℕ) → Bool
  pub before : (t u : ℕ) → Bool
  pub ends : (t k : ℕ) → ℕ
  pub edges : (t u : ℕ) → ℕ
  pub outcome : (t : ℕ) → Outcome
  pub rank : (t : ℕ) → ℕ

-- The outcome of a task that ran: failed if an end is, else ended with code 1 if an end is so.
abbrev pub outcome_by : (failed one : ℕ) → Outcome
outcome_by failed one = cond (failed == 0) (cond (one == 0) outcome.Ended0 outcome.Ended1) outcome.Failed

-- What is decided of a task: to fail if a dependency is failed; else to run if it has no dependency, or, with
-- `join some`, if one is met, or, without it, if none is unmet; else to be skipped.
abbrev pub decide_by : (some : Bool) → (deps failed unmet met : ℕ) → Decision
decide_by some deps failed unmet met =
    cond (failed == 0)
    (cond (deps == 0) decision.Run
    (cond some (cond (met == 0) decision.Skip decision.Run) (cond (unmet == 0) decision.Run decision.Skip)))
    decision.Fail

-- 1 if some end of an instance of task t has bit i, else 0.
abbrev pub any_end : TaskGraph → (t i : ℕ) → ℕ
any_end g t i = sign (sum_below (λ k. bit_at (g.ends t k) i) (g.quota t))

-- 1 if some dependency of task u has bit i, else 0.
abbrev pub any_edge : TaskGraph → (u i : ℕ) → ℕ
any_edge g u i = sign (sum_below (λ t. masked (times u (g.successors t)) (bit_at (g.edges t u) i)) g.tasks)

-- What is decided of task u by the bits of its dependencies.
abbrev pub decision_by : TaskGraph → (u : ℕ) → Decision
decision_by g u = decide_by (g.some u) (g.deps u) (any_edge g u 0) (any_edge g u 1) (any_edge g u 2)

-- What has to hold of a task graph: a task stands at most once among those that depend on another, which are tasks of
-- higher rank; its dependencies are counted; each task has an instance, and instances of tasks alone run; a task all of
-- whose instances ran has the outcome of their ends; of what is decided, to run lets all instances run, to skip and to
-- fail let none run and give the outcome; and coming before is made of dependencies.
pub record IsTaskGraph (g : TaskGraph) : Type 0 where
  pub successor_once : (t u : ℕ) → times u (g.successors t) ≤ 1
  pub successor_task : (t u : ℕ) → 1 ≤ times u (g.successors t) → u < g.tasks
  pub rises : (t u : ℕ) → 1 ≤ times u (g.successors t) → g.rank t < g.rank u
  pub deps_counted : (u : ℕ) → u < g.tasks → g.deps u ≡ sum_below (λ t. times u (g.successors t)) g.tasks
  pub quota_some : (t : ℕ) → t < g.tasks → 1 ≤ g.quota t
  pub ran_instances : (t k : ℕ) → g.ran t k ≡ true → (t < g.tasks) × (k < g.quota t)
  pub outcome_ran : (t : ℕ) → t < g.tasks → ((k : ℕ) → k < g.quota t → g.ran t k ≡ true)
      → g.outcome t ≡ outcome_by (any_end g t 1) (any_end g t 0)
  pub runs : (u k : ℕ) → u < g.tasks → decision_by g u ≡ decision.Run → k < g.quota u → g.ran u k ≡ true
  pub skips : (u : ℕ) → u < g.tasks → decision_by g u ≡ decision.Skip
      → (g.outcome u ≡ outcome.Skipped) × ((k : ℕ) → g.ran u k ≡ false)
  pub fails : (u : ℕ) → u < g.tasks → decision_by g u ≡ decision.Fail
      → (g.outcome u ≡ outcome.Failed) × ((k : ℕ) → g.ran u k ≡ false)
  pub before_by : (x u : ℕ) → g.before x u ≡ true
      → (t : ℕ) × (t < g.tasks) × (1 ≤ times u (g.successors t)) × ((x ≡ t) ⊎ (g.before x t ≡ true))
  pub before_successor : (t u : ℕ) → 1 ≤ times u (g.successors t) → g.before t u ≡ true

-- All instances of task u run, and no task comes before it.
pub record IsRoot (g : TaskGraph) (u : ℕ) : Type 0 where
  pub runs : (k : ℕ) → k < g.quota u → g.ran u k ≡ true
  pub first : (t : ℕ) → g.before t u ≡ false

-- So it is for each task without dependencies.
abbrev pub RootsRun : Type 0
RootsRun = (g : TaskGraph) → IsTaskGraph g → (u : ℕ) → u < g.tasks → g.deps u ≡ 0 → IsRoot g u
