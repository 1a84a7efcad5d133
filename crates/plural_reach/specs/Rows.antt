-- A table of sets of task numbers, one for each task.
use Rattle.std.specs.Prelude.{ℕ, ◌==◌, ◌||◌, Bool, false, List, slice_get}
use Rattle.std.specs.List.{list_any}
use Rattle.std.specs.Option.{option_map_or}
use Rattle.plural_map.specs.declared.outcome.Dep.{Dep}
use Rattle.plural_reach.specs.declared.set.TaskSet.{TaskSet}
use Rattle.plural_reach.specs.Sets.{has}
use Rattle.plural_reach.specs.Branches.{Family}

-- The set of task t has the number p.
abbrev pub row : List TaskSet → (t p : ℕ) → Bool
row sets t p = option_map_or (λ s. has s p) (slice_get sets t) false

-- Task p is one of those that the dependencies name, or in the set of one that they name.
abbrev pub is_named : List TaskSet → List Dep → (p : ℕ) → Bool
is_named sets deps p = list_any (λ d. d.task == p || row sets d.task p) deps

-- The table as a family, the same for each code.
abbrev pub family : List TaskSet → Family
family sets = λ t p c. row sets t p
