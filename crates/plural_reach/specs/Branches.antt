-- Exclusive branches: tasks that never both run, since one needs code 0 of a task and the other code 1.
use Rattle.std.specs.Prelude.{ℕ, ◌≡◌, ◌≢◌, ◌⊎◌, ◌==◌, ◌&&◌, ◌||◌, Bool, true, false, List, [], ◌∷◌, Option, Some, None, slice_get}
use Rattle.std.specs.List.{list_any, list_all}
use Rattle.std.specs.Option.{option_map_or}
use Rattle.plural_map.specs.declared.outcome.Dep.{Dep}
use Rattle.plural_map.specs.declared.outcome.When.{When}
use Rattle.plural_map.specs.declared.outcome.When.TheVariants as when
use Rattle.plural_map.specs.Value.{TaskValue}

-- The code that a condition asks for; `any` asks for none.
abbrev pub code_of : When → Option ℕ
code_of when.Any = None
code_of when.Code0 = Some 0
code_of when.Code1 = Some 1

-- For each task, a set of pairs of a task and a code.
abbrev pub Family : Type 0
Family = (task other code : ℕ) → Bool

-- The dependency gives the pair (p, c): it asks for a code, and either it is on p and asks for c, or the task that it
-- is on has the pair.
abbrev pub gives : Family → (p c : ℕ) → Dep → Bool
gives sets p c d = option_map_or (λ code. (d.task == p && code == c) || sets d.task p c) (code_of d.when) false

-- There are dependencies, and each gives the pair.
abbrev pub all_give : Family → (p c : ℕ) → List Dep → Bool
all_give sets p c [] = false
all_give sets p c (d ∷ ds) = list_all (gives sets p c) (d ∷ ds)

-- The task is given the pair: by one of its dependencies, or, with `join some`, by each of them.
abbrev pub is_given : Family → (p c : ℕ) → (some : Bool) → List Dep → Bool
is_given sets p c true deps = all_give sets p c deps
is_given sets p c false deps = list_any (gives sets p c) deps

-- Each task's set has all that the task is given.
pub record IsClosed (tasks : List TaskValue) (sets : Family) : Type 0 where
  pub has_given : (t p c : ℕ) (task : TaskValue) → slice_get tasks t ≡ Some task
      → is_given sets p c task.some task.deps ≡ true → sets t p c ≡ true

-- Task t needs code c of task p: the pair is in the least sets that have all that their tasks are given, which is to
-- say in the set of t of each closed family.
abbrev pub NeedsCode : List TaskValue → (t p c : ℕ) → Type 0
NeedsCode tasks t p c = (sets : Family) → IsClosed tasks sets → sets t p c ≡ true

-- The tasks differ, and for some task p one needs its code 0 and the other its code 1.
abbrev pub Exclusive : List TaskValue → (t u : ℕ) → Type 0
Exclusive tasks t u =
    (t ≢ u) × (p : ℕ)
    × ((NeedsCode tasks t p 0 × NeedsCode tasks u p 1) ⊎ (NeedsCode tasks t p 1 × NeedsCode tasks u p 0))
