-- The cycle of tasks of which the order doesn't reach each.
use Rattle.std.specs.Prelude.{ℕ, zero, suc, ◌+◌, ◌≡◌, ◌≢◌, ◌<◌, ◌≤◌, Bool, not, ◌&&◌, ◌==◌, ◌⊎◌, true, List, length, map}
use Rattle.std.specs.List.{All, list_any, range_with_len, position_or_len}
use Rattle.plural_map.specs.declared.outcome.Dep.{Dep}
use Rattle.plural_map.specs.Value.{TaskValue, task_of}
use Rattle.plural_map.specs.Order.{is_among, order_of}
use Rattle.plural_map.specs.Lookup.{name_at}

-- The order doesn't reach the task of this number.
abbrev pub is_left : List TaskValue → ℕ → Bool
is_left tasks t = not (is_among t (order_of tasks))

-- The task depends on the task of this number.
abbrev pub depends_on : TaskValue → ℕ → Bool
depends_on task u = list_any (λ d. d.task == u) task.deps

-- The least task that the order doesn't reach; how many tasks there are if it reaches each.
abbrev pub first_left : List TaskValue → ℕ
first_left tasks = position_or_len (is_left tasks) (range_with_len 0 (length tasks))

-- The least task that the order doesn't reach and that the task of this number depends on; how many tasks there are if
-- there is none.
abbrev pub next_left : List TaskValue → ℕ → ℕ
next_left tasks t =
    position_or_len (λ u. is_left tasks u && depends_on (task_of tasks t) u) (range_with_len 0 (length tasks))

-- The walk through the tasks that the order doesn't reach: it begins with the least of them, and goes from each to the
-- least of them that it depends on.
unfoldable pub walk : List TaskValue → ℕ → ℕ
walk tasks zero = first_left tasks
walk tasks (suc k) = next_left tasks (walk tasks k)

-- The order doesn't reach each task, and these are the numbers of the cycle: the walk goes on until one of its tasks
-- repeats, and the cycle is what stands from that task's first place up to the place before its second.
pub record IsCycle (tasks : List TaskValue) (cycle : List ℕ) : Type 0 where
  pub left : first_left tasks < length tasks
  pub from : ℕ
  pub size : ℕ
  pub some : 1 ≤ size
  pub differ : (i j : ℕ) → i < j → j < from + size → walk tasks i ≢ walk tasks j
  pub repeats : walk tasks (from + size) ≡ walk tasks from
  pub is : cycle ≡ map (walk tasks) (range_with_len from size)

-- These are the names of the tasks of the cycle, in its order.
pub record IsCycleNamed (tasks : List TaskValue) (names : List (List ℕ)) : Type 0 where
  pub cycle : List ℕ
  pub found : IsCycle tasks cycle
  pub named : names ≡ map (name_at tasks) cycle

-- Each task depends on tasks of the list alone.
abbrev pub AreWithin : List TaskValue → Type 0
AreWithin tasks = All (λ (t : TaskValue). All (λ (d : Dep). d.task < length tasks) t.deps) tasks

-- The order has the number of each task.
abbrev pub ReachesAll : List TaskValue → Type 0
ReachesAll tasks = (t : ℕ) → t < length tasks → is_among t (order_of tasks) ≡ true

-- Tasks that depend on each other alone: the order reaches each of them, or they have a cycle.
abbrev pub CycleOrWhole : Type 0
CycleOrWhole =
    (tasks : List TaskValue) → AreWithin tasks
    → ReachesAll tasks ⊎ ((names : List (List ℕ)) × IsCycleNamed tasks names)

-- Tasks of which the order reaches each have no cycle, and others at most one.
pub record IsOneCycle (tasks : List TaskValue) : Type 0 where
  pub none : (names : List (List ℕ)) → ReachesAll tasks → IsCycleNamed tasks names → ⊥
  pub one : (names others : List (List ℕ)) → IsCycleNamed tasks names → IsCycleNamed tasks others → names ≡ others

-- So it is of all tasks.
abbrev pub OneCycle : Type 0
OneCycle = (tasks : List TaskValue) → IsOneCycle tasks
