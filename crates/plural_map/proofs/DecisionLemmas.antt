-- What a decision rests on: the outcomes of the tasks that the task depends on.
use Rattle.std.proofs.Common.{◌≡◌, ℕ, Bool, true, false, ◌||◌, ◌&&◌, if◌then◌else◌, List, [], ◌∷◌, Option, refl, ap, ◌∙◌}
use Rattle.std.specs.List.{AllByRecursion, list_any, list_all}
use Rattle.std.proofs.lemmas.Bool.{and_parts}
use Rattle.plural_map.specs.declared.outcome.Dep.{Dep}
use Rattle.plural_map.specs.declared.outcome.Outcome.{Outcome}
use Rattle.plural_map.specs.declared.outcome.Decision.TheVariants as decision
use Rattle.plural_map.specs.Value.{TaskValue}
use Rattle.plural_map.specs.Decisions.{outcome_at, is_failed, is_satisfied, is_enough, decided}
use Rattle.plural_map.specs.Order.{is_among}

-- What holds of each number of a list holds of the tasks of dependencies that are all among them.
pub dependencies_among : (P : ℕ → Type 0) (done : List ℕ) (ds : List Dep) → ((t : ℕ) → is_among t done ≡ true → P t)
    → list_all (λ d. is_among d.task done) ds ≡ true → AllByRecursion (λ (d : Dep). P d.task) ds
dependencies_among P done [] f h = tt
dependencies_among P done (d ∷ ds) f h =
    let r = and_parts (is_among d.task done) (list_all (λ e. is_among e.task done) ds) h in
    (f d.task r.0, dependencies_among P done ds f r.1)

-- The tasks of these dependencies have the same outcomes in both lists.
abbrev AreSame : (o q : List (Option Outcome)) → List Dep → Type 0
AreSame o q ds = AllByRecursion (λ (d : Dep). outcome_at o d.task ≡ outcome_at q d.task) ds

failed_same : (o q : List (Option Outcome)) (ds : List Dep) → AreSame o q ds → list_any (λ d. is_failed (outcome_at o d.task)) ds ≡ list_any (λ d. is_failed (outcome_at q d.task)) ds
failed_same o q [] h = refl
failed_same o q (d ∷ ds) h =
    ap (λ (x : Option Outcome). is_failed x || list_any (λ e. is_failed (outcome_at o e.task)) ds) h.0 ∙ ap (λ (b : Bool). is_failed (outcome_at q d.task) || b) (failed_same o q ds h.1)

any_same : (o q : List (Option Outcome)) (ds : List Dep) → AreSame o q ds → list_any (λ d. is_satisfied d.when (outcome_at o d.task)) ds ≡ list_any (λ d. is_satisfied d.when (outcome_at q d.task)) ds
any_same o q [] h = refl
any_same o q (d ∷ ds) h =
    ap (λ (x : Option Outcome). is_satisfied d.when x || list_any (λ e. is_satisfied e.when (outcome_at o e.task)) ds) h.0 ∙ ap (λ (b : Bool). is_satisfied d.when (outcome_at q d.task) || b) (any_same o q ds h.1)

all_same : (o q : List (Option Outcome)) (ds : List Dep) → AreSame o q ds → list_all (λ d. is_satisfied d.when (outcome_at o d.task)) ds ≡ list_all (λ d. is_satisfied d.when (outcome_at q d.task)) ds
all_same o q [] h = refl
all_same o q (d ∷ ds) h =
    ap (λ (x : Option Outcome). is_satisfied d.when x && list_all (λ e. is_satisfied e.when (outcome_at o e.task)) ds) h.0 ∙ ap (λ (b : Bool). is_satisfied d.when (outcome_at q d.task) && b) (all_same o q ds h.1)

enough_same : (some : Bool) (o q : List (Option Outcome)) (ds : List Dep) → AreSame o q ds → is_enough some ds o ≡ is_enough some ds q
enough_same some o q [] h = refl
enough_same true o q (d ∷ ds) h = any_same o q (d ∷ ds) h
enough_same false o q (d ∷ ds) h = all_same o q (d ∷ ds) h

-- A decision rests on the outcomes of the tasks that the task depends on alone.
pub decided_same : (task : TaskValue) (o q : List (Option Outcome)) → AllByRecursion (λ (d : Dep). outcome_at o d.task ≡ outcome_at q d.task) task.deps → decided task o ≡ decided task q
decided_same task o q h =
    ap (λ (b : Bool). if b then decision.Fail else (if is_enough task.some task.deps o then decision.Run else decision.Skip)) (failed_same o q task.deps h)
    ∙ ap (λ (b : Bool). if list_any (λ d. is_failed (outcome_at q d.task)) task.deps then decision.Fail else (if b then decision.Run else decision.Skip)) (enough_same task.some o q task.deps h)
