-- The map of the large filter bundle: a filter of 1,024 instances, its greatest outputs, the best of these, two
-- branches by whether the best reaches a limit, and what is done after them. It doesn't depend on the seed.
use Rattle.std.specs.Prelude.{ℕ, true, false, List, [], ◌∷◌, codes}
use Rattle.plural_regions.specs.declared.region.Region.{Region}
use Rattle.plural_regions.specs.declared.region.Mode.TheVariants.{Read, Write}
use Rattle.plural_map.specs.declared.outcome.Dep.{Dep}
use Rattle.plural_map.specs.declared.outcome.When.{When}
use Rattle.plural_map.specs.declared.outcome.When.TheVariants.{Any, Code0, Code1}
use Rattle.plural_map_text.specs.RegionOf.{region_of}
use Rattle.plural_map.specs.Value.{TaskValue, MapValue}

-- The region of a line `read BASE STRIDE COUNT`.
abbrev pub reads : (base stride count : ℕ) → Region
reads base stride count = region_of Read base stride count

-- The region of a line `write BASE STRIDE COUNT`.
abbrev pub writes : (base stride count : ℕ) → Region
writes base stride count = region_of Write base stride count

-- The dependency on the task of this number, with this condition.
abbrev pub after : ℕ → When → Dep
after t w = record { task = t; when = w }

-- A task of this many instances, which begin at the label of the task's own name.
abbrev pub dup_task : List ℕ → (quota budget : ℕ) → List Dep → List Region → TaskValue
dup_task n quota budget deps regions = record {
  name = n;
  dup = true;
  quota = quota;
  entry = n;
  budget = budget;
  some = false;
  deps = deps;
  regions = regions;
}

-- A task of one instance, which begins at the label of the task's own name.
abbrev pub regular_task : List ℕ → (budget : ℕ) → List Dep → List Region → TaskValue
regular_task n budget deps regions = record {
  name = n;
  dup = false;
  quota = 1;
  entry = n;
  budget = budget;
  some = false;
  deps = deps;
  regions = regions;
}

-- The filter, task 0: each instance reads its 31 samples and the 16 taps, and writes its 16 outputs.
abbrev pub fir_task : TaskValue
fir_task = dup_task (codes "fir") 1024 10000 [] (reads 0 16 31 ∷ reads 16400 0 16 ∷ writes 16416 16 16 ∷ [])

-- The greatest outputs, task 1: each instance reads its 2,048 outputs, and writes their greatest.
abbrev pub top_task : TaskValue
top_task = dup_task (codes "top") 8 100000 (after 0 Any ∷ []) (reads 16416 2048 2048 ∷ writes 32800 1 1 ∷ [])

-- The best, task 2: it reads the greatest of the eight and the limit, and writes the best. Its code is whether the best
-- reaches the limit.
abbrev pub best_task : TaskValue
best_task =
    regular_task (codes "best") 1000 (after 1 Any ∷ []) (reads 32800 0 8 ∷ reads 32810 0 1 ∷ writes 32808 0 1 ∷ [])

-- The branch for a best that reaches the limit, task 3.
abbrev pub loud_task : TaskValue
loud_task = regular_task (codes "loud") 100 (after 2 Code1 ∷ []) (writes 32809 0 1 ∷ [])

-- The branch for a best below the limit, task 4.
abbrev pub quiet_task : TaskValue
quiet_task = regular_task (codes "quiet") 100 (after 2 Code0 ∷ []) (writes 32811 0 1 ∷ [])

-- What is done after both branches, task 5: it reads what each of them wrote.
abbrev pub done_task : TaskValue
done_task =
    regular_task (codes "done") 100 (after 3 Any ∷ after 4 Any ∷ [])
    (reads 32809 0 1 ∷ reads 32811 0 1 ∷ writes 32812 0 1 ∷ [])

-- The tasks, by their numbers.
abbrev pub made_tasks : List TaskValue
made_tasks = fir_task ∷ top_task ∷ best_task ∷ loud_task ∷ quiet_task ∷ done_task ∷ []

-- The map: 32,816 words, caches of 16 sets of 2 ways, and the tasks in the order of their numbers.
unfoldable pub made_map : MapValue
made_map = record { words = 32816; sets = 16; ways = 2; tasks = made_tasks; order = 0 ∷ 1 ∷ 2 ∷ 3 ∷ 4 ∷ 5 ∷ [] }
