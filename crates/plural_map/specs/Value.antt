-- A task and a map as contracts see them.
use Rattle.std.specs.Prelude.{ℕ, Bool, true, false, List, [], ◌∷◌, ◌++◌, slice_index_or}
use Rattle.plural_regions.specs.declared.region.Region.{Region}
use Rattle.plural_map.specs.declared.outcome.Dep.{Dep}

-- A task: its name, whether it is duplicable, how many instances it has, the name of the label that they begin at, how
-- many instructions each completes at most, whether one satisfied dependency is enough, its dependencies, its regions.
pub record TaskValue : Type 0 where
  pub name : List ℕ
  pub dup : Bool
  pub quota : ℕ
  pub entry : List ℕ
  pub budget : ℕ
  pub some : Bool
  pub deps : List Dep
  pub regions : List Region

-- A map: the memory's words, the caches' sets and ways, the tasks by number, and the numbers in the order of running.
pub record MapValue : Type 0 where
  pub words : ℕ
  pub sets : ℕ
  pub ways : ℕ
  pub tasks : List TaskValue
  pub order : List ℕ

-- The map of these parts.
abbrev pub map_value : (words sets ways : ℕ) → List TaskValue → (order : List ℕ) → MapValue
map_value words sets ways tasks order =
    record { words = words; sets = sets; ways = ways; tasks = tasks; order = order }

-- What stands past the last task: a task without a name, instances, dependencies and regions.
abbrev pub no_task : TaskValue
no_task = record {
  name = [];
  dup = false;
  quota = 0;
  entry = [];
  budget = 0;
  some = false;
  deps = [];
  regions = [];
}

-- The task of a number.
abbrev pub task_of : List TaskValue → ℕ → TaskValue
task_of tasks t = slice_index_or tasks t no_task

-- A task with one more dependency.
abbrev pub with_dep : Dep → TaskValue → TaskValue
with_dep dep t = record t { deps = t.deps ++ dep ∷ [] }

-- A task with one more region.
abbrev pub with_region : Region → TaskValue → TaskValue
with_region region t = record t { regions = t.regions ++ region ∷ [] }

-- A task that runs if one dependency is satisfied.
abbrev pub with_some : TaskValue → TaskValue
with_some t = record t { some = true }
