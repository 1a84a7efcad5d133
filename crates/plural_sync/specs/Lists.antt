-- The lists of successors that a synchroniser keeps. (This project's own.)
use Rattle.std.specs.Prelude.{ℕ, ◌≡◌, ◌<◌, ◌≤◌, ◌==◌, ◌++◌, cond, List, [], ◌∷◌, length, map, filter, Vec}
use Rattle.std.specs.Prelude.{slice_index_or, slice_set}
use Rattle.std.specs.List.{list_any, range_with_len}
use Rattle.std.specs.declared.alloc.Global.{Global}
use Rattle.plural_map.specs.declared.outcome.Dep.{Dep}
use Rattle.plural_map.specs.Value.{TaskValue}
use Rattle.plural_order.specs.ProgramGraph.{depends_on, successors_of}

-- The numbers of each list.
abbrev pub rows_of : List (Vec ℕ Global) → List (List ℕ)
rows_of lists = map (λ v. v.items) lists

-- Row t. (Empty if there is none.)
abbrev pub row : List (List ℕ) → (t : ℕ) → List ℕ
row rows t = slice_index_or rows t []

-- The rows with u at the end of row t.
abbrev pub with_pushed : List (List ℕ) → (t u : ℕ) → List (List ℕ)
with_pushed rows t u = slice_set rows t (row rows t ++ u ∷ [])

-- There is a row for each task, and it has those of the first n tasks that depend on it, by rising number.
pub record HasSuccessors (tasks : List TaskValue) (n : ℕ) (rows : List (List ℕ)) : Type 0 where
  pub all : length rows ≡ length tasks
  pub each : (t : ℕ) → t < length tasks
      → row rows t ≡ filter (λ u. depends_on tasks u t) (range_with_len 0 n)

-- There is a row for each task, of which there are few, and it has the tasks that depend on it, by rising number.
pub record AreSuccessors (tasks : List TaskValue) (rows : List (List ℕ)) : Type 0 where
  pub few : length tasks ≤ 256
  pub all : length rows ≡ length tasks
  pub each : (t : ℕ) → t < length tasks → row rows t ≡ successors_of tasks t

-- u alone if one of the dependencies is on task t, else nothing.
abbrev pub if_on : List Dep → (u t : ℕ) → List ℕ
if_on deps u t = cond (list_any (λ d. d.task == t) deps) (u ∷ []) []

-- The rows of those that one of the dependencies is on have u at their end now.
pub record HasGained (deps : List Dep) (u : ℕ) (old new : List (List ℕ)) : Type 0 where
  pub all : length new ≡ length old
  pub each : (t : ℕ) → t < length old → row new t ≡ row old t ++ if_on deps u t
