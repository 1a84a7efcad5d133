-- Which tasks come before which: chains of dependencies.
use Rattle.std.specs.Prelude.{ℕ, zero, suc, ◌≡◌, ◌==◌, ◌||◌, Bool, true, false, List, [], ◌∷◌, length}
use Rattle.std.specs.List.{list_any}
use Rattle.plural_map.specs.declared.outcome.Dep.{Dep}
use Rattle.plural_map.specs.Value.{TaskValue, task_of}

-- The dependencies of the task of this number; a number without a task has none.
abbrev pub deps_of : List TaskValue → ℕ → List Dep
deps_of tasks t = (task_of tasks t).deps

-- Task u has a dependency on task t, whatever its condition.
abbrev pub DependsOn : List TaskValue → (u t : ℕ) → Type 0
DependsOn tasks u t = list_any (λ d. d.task == t) (deps_of tasks u) ≡ true

-- The tasks between lead back from u to t: u depends on the first of them, each on the next, and the last on t; if
-- there are none, u depends on t.
abbrev pub LeadsBack : List TaskValue → (u : ℕ) → (between : List ℕ) → (t : ℕ) → Type 0
LeadsBack tasks u [] t = DependsOn tasks u t
LeadsBack tasks u (w ∷ between) t = DependsOn tasks u w × LeadsBack tasks w between t

-- Task t comes before task u: a chain of one dependency or more leads from t to u.
abbrev pub Before : List TaskValue → (t u : ℕ) → Type 0
Before tasks t u = (between : List ℕ) × LeadsBack tasks u between t

-- A chain of at most n dependencies leads from task t to task u.
unfoldable pub before_in : ℕ → List TaskValue → (t u : ℕ) → Bool
before_in zero tasks t u = false
before_in (suc n) tasks t u = list_any (λ d. d.task == t || before_in n tasks t d.task) (deps_of tasks u)

-- The test for task t coming before task u: a chain of no more dependencies than there are tasks leads from t to u.
unfoldable pub comes_before : List TaskValue → (t u : ℕ) → Bool
comes_before tasks t u = before_in (length tasks) tasks t u
