-- The limits of a task and of a map.
use Rattle.std.specs.Prelude.{ℕ, ◌≡◌, ◌≢◌, ◌<◌, ◌≤◌, ◌%◌, true, false, List, length, map, sum}
use Rattle.std.specs.List.{All, AllPairs}
use Rattle.plural_base.specs.CacheShape.{is_set_count}
use Rattle.plural_regions.specs.Rights.{may_read}
use Rattle.plural_map.specs.Value.{TaskValue, MapValue}
use Rattle.plural_map.specs.Order.{is_among, order_of}

-- A task of a map of these tasks, over a memory of this many words.
pub record IsTask (words : ℕ) (tasks : List TaskValue) (task : TaskValue) : Type 0 where
  pub quota_low : 1 ≤ task.quota
  pub quota_high : task.quota ≤ 16384
  pub regular : task.dup ≡ false → task.quota ≡ 1
  pub budget_low : 1 ≤ task.budget
  pub budget_high : task.budget ≤ 100000000
  pub few_deps : length task.deps ≤ 16
  pub deps_within : All (λ d. d.task < length tasks) task.deps
  pub deps_differ : AllPairs (λ d e. d.task ≢ e.task) task.deps
  pub few_regions : length task.regions ≤ 8
  pub inside : (k a : ℕ) → k < task.quota → may_read task.regions k a ≡ true → a < words

-- A map within all limits, whose order is that of its tasks and reaches each of them.
pub record IsMap (m : MapValue) : Type 0 where
  pub words_low : 8 ≤ m.words
  pub words_high : m.words ≤ 1048576
  pub words_whole : m.words % 8 ≡ 0
  pub sets : is_set_count m.sets ≡ true
  pub ways_low : 1 ≤ m.ways
  pub ways_high : m.ways ≤ 4
  pub few_tasks : length m.tasks ≤ 256
  pub few_instances : sum (map (λ t. t.quota) m.tasks) ≤ 65536
  pub names_differ : AllPairs (λ t u. t.name ≢ u.name) m.tasks
  pub each : All (IsTask m.words m.tasks) m.tasks
  pub ordered : m.order ≡ order_of m.tasks
  pub reaches : (t : ℕ) → t < length m.tasks → is_among t m.order ≡ true
