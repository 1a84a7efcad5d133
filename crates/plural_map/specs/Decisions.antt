-- Decisions: what becomes of a task by the outcomes of its predecessors.
use Rattle.std.specs.Prelude.{ℕ, ◌≡◌, Bool, true, false, if◌then◌else◌, List, [], ◌∷◌, Option, Some, None, slice_index_or, is_some}
use Rattle.std.specs.List.{list_any, list_all}
use Rattle.plural_map.specs.declared.outcome.Outcome.{Outcome}
use Rattle.plural_map.specs.declared.outcome.Outcome.TheVariants as outcome
use Rattle.plural_map.specs.declared.outcome.Decision.{Decision}
use Rattle.plural_map.specs.declared.outcome.Decision.TheVariants as decision
use Rattle.plural_map.specs.declared.outcome.When.{When}
use Rattle.plural_map.specs.declared.outcome.When.TheVariants as when
use Rattle.plural_map.specs.declared.outcome.Dep.{Dep}
use Rattle.plural_map.specs.Value.{TaskValue}

-- `any` is satisfied if the task ended or was skipped, a code if it ended with that code.
abbrev pub satisfies : When → Outcome → Bool
satisfies when.Any outcome.Ended0 = true
satisfies when.Any outcome.Ended1 = true
satisfies when.Any outcome.Skipped = true
satisfies when.Any outcome.Failed = false
satisfies when.Code0 outcome.Ended0 = true
satisfies when.Code0 _ = false
satisfies when.Code1 outcome.Ended1 = true
satisfies when.Code1 _ = false

-- The outcome of the task of this number, if it is there.
abbrev pub outcome_at : List (Option Outcome) → ℕ → Option Outcome
outcome_at outcomes t = slice_index_or outcomes t None

-- The outcome is there and is Failed.
abbrev pub is_failed : Option Outcome → Bool
is_failed (Some outcome.Failed) = true
is_failed _ = false

-- The outcome is there and satisfies the dependency.
abbrev pub is_satisfied : When → Option Outcome → Bool
is_satisfied w None = false
is_satisfied w (Some o) = satisfies w o

-- A predecessor of the task is failed.
abbrev pub has_failed : TaskValue → List (Option Outcome) → Bool
has_failed task outcomes = list_any (λ d. is_failed (outcome_at outcomes d.task)) task.deps

-- The task has no dependencies; or, with `join some`, one is satisfied; or, without it, all are.
abbrev pub is_enough : (some : Bool) → List Dep → List (Option Outcome) → Bool
is_enough some [] outcomes = true
is_enough true (d ∷ ds) outcomes = list_any (λ d. is_satisfied d.when (outcome_at outcomes d.task)) (d ∷ ds)
is_enough false (d ∷ ds) outcomes = list_all (λ d. is_satisfied d.when (outcome_at outcomes d.task)) (d ∷ ds)

-- A task fails if a predecessor is failed, else runs if enough of its dependencies are satisfied, else is skipped.
abbrev pub decided : TaskValue → List (Option Outcome) → Decision
decided task outcomes =
    if has_failed task outcomes then decision.Fail
    else if is_enough task.some task.deps outcomes then decision.Run
    else decision.Skip

-- The outcome of each predecessor of the task is there.
abbrev pub HasPredecessors : TaskValue → List (Option Outcome) → Type 0
HasPredecessors task outcomes = list_all (λ d. is_some (outcome_at outcomes d.task)) task.deps ≡ true

-- No predecessor of the task is failed, and not enough of its dependencies are satisfied.
abbrev pub IsSkipped : TaskValue → List (Option Outcome) → Type 0
IsSkipped task outcomes = (has_failed task outcomes ≡ false) × (is_enough task.some task.deps outcomes ≡ false)
