-- Of two exclusive tasks one has no instance that runs.
use Rattle.std.proofs.Common.{◌≡◌, ℕ, ◌<◌, ◌≤◌, Bool, true, false, not, ◌||◌, ◌&&◌, eqb, eqb-true, List, [], ◌∷◌, length, Option, Some, None, refl, sym, ap, subst, ◌∙◌, inl, inr, ⊎_elim}
use Rattle.std.specs.Prelude.{◌==◌, if◌then◌else◌}
use Rattle.std.specs.List.{All, list_any, list_all}
use Rattle.std.specs.Option.{option_map_or}
use Rattle.std.proofs.lemmas.Bool.{cases_Bool, cases_lt, and_parts, or_cases, or_right}
use Rattle.std.proofs.lemmas.Option.{slice_get_within, get_or_from_slice_get}
use Rattle.std.proofs.lemmas.List.Elements.{All-head, All-tail}
use Rattle.plural_map.specs.declared.outcome.Dep.{Dep}
use Rattle.plural_map.specs.declared.outcome.When.{When}
use Rattle.plural_map.specs.declared.outcome.When.TheVariants as when
use Rattle.plural_map.specs.declared.outcome.Outcome.{Outcome}
use Rattle.plural_map.specs.declared.outcome.Outcome.TheVariants as outcome
use Rattle.plural_map.specs.declared.outcome.Decision.{Decision}
use Rattle.plural_map.specs.declared.outcome.Decision.TheVariants as decision
use Rattle.plural_map.specs.Value.{TaskValue, no_task}
use Rattle.plural_map.specs.Limits.{IsMap}
use Rattle.plural_map.specs.Decisions.{decided, outcome_at, is_enough, is_satisfied, has_failed}
use Rattle.plural_reach.specs.Branches.{Family, code_of, gives, is_given, IsClosed, NeedsCode, Exclusive}
use Rattle.plural_serial.specs.Program.{ProgramValue, task_at}
use Rattle.plural_serial.specs.Serial.{serial_of}
use Rattle.plural_serial.specs.Instances.{is_in}
use Rattle.plural_serial.specs.Stretches.{result_of, runs_of, decision_of}
use Rattle.plural_serial.proofs.Stretches.{decided_at}
use Rattle.plural_serial.proofs.Stretches.{who_ran, none_past}
use Rattle.plural_order.specs.ProgramWorld.{world_of}
use Rattle.plural_order.specs.ProgramLaws.{OneBranch}

abbrev is_run : Decision → Bool
is_run decision.Fail = false
is_run decision.Skip = false
is_run decision.Run = true

-- The task ended with this code.
abbrev is_code : ℕ → Option Outcome → Bool
is_code c (Some outcome.Ended0) = 0 == c
is_code c (Some outcome.Ended1) = 1 == c
is_code c (Some outcome.Skipped) = false
is_code c (Some outcome.Failed) = false
is_code c None = false

module _ (p : ProgramValue) (m : List ℕ) (limits : IsMap p.map) where
  outcome_of : ℕ → Option Outcome
  outcome_of t = outcome_at (serial_of p m).outcomes t

  -- the family of what was so: if task t runs, task q ended with code c
  met : Family
  met t q c = not (is_run (decision_of p m t)) || is_code c (outcome_of q)

  -- a task that ended with a code ran
  code_ran : (t c : ℕ) → t < length p.map.tasks → is_code c (outcome_of t) ≡ true → is_run (decision_of p m t) ≡ true
  unfolding outcome_of
  code_ran t c l e = let d = decided_at p m t limits l in by (decision_of p m t) d.memory (ap (is_code c) (sym d.outcome) ∙ e)
    where
      by : (d : Decision) (n : List ℕ) → is_code c (Some (result_of d p t n)) ≡ true → is_run d ≡ true
      by decision.Fail n k = absurd cc
      by decision.Skip n k = absurd cc
      by decision.Run n k = refl

  by_code : (q c code t : ℕ) → t < length p.map.tasks → ((t == q && code == c) || met t q c) ≡ true → is_code code (outcome_of t) ≡ true → is_code c (outcome_of q) ≡ true
  unfolding met
  by_code q c code t l g e = ⊎_elim
      (λ (h : (t == q && code == c) ≡ true). ap (λ (x : ℕ). is_code c (outcome_of x)) (sym (eqb-true t q (and_parts (eqb t q) (eqb code c) h).0)) ∙ (ap (λ (x : ℕ). is_code x (outcome_of t)) (sym (eqb-true code c (and_parts (eqb t q) (eqb code c) h).1)) ∙ e))
      (λ (h : (not (is_run (decision_of p m t)) || is_code c (outcome_of q)) ≡ true). ap (λ (b : Bool). not b || is_code c (outcome_of q)) (sym (code_ran t code l e)) ∙ h)
      (or_cases (t == q && code == c) (met t q c) g)

  -- a satisfied dependency that gives a pair shows that it was so
  shown : (q c : ℕ) (d : Dep) → d.task < length p.map.tasks → gives met q c d ≡ true → is_satisfied d.when (outcome_of d.task) ≡ true → is_code c (outcome_of q) ≡ true
  shown q c d l g s = by d.when (outcome_of d.task) refl g s
    where
      by : (w : When) (o : Option Outcome) → outcome_of d.task ≡ o → option_map_or (λ code. (d.task == q && code == c) || met d.task q c) (code_of w) false ≡ true → is_satisfied w o ≡ true → is_code c (outcome_of q) ≡ true
      by when.Any o e g s = absurd cc
      by when.Code0 None e g s = absurd cc
      by when.Code0 (Some outcome.Ended0) e g s = by_code q c 0 d.task l g (ap (is_code 0) e)
      by when.Code0 (Some outcome.Ended1) e g s = absurd cc
      by when.Code0 (Some outcome.Skipped) e g s = absurd cc
      by when.Code0 (Some outcome.Failed) e g s = absurd cc
      by when.Code1 None e g s = absurd cc
      by when.Code1 (Some outcome.Ended0) e g s = absurd cc
      by when.Code1 (Some outcome.Ended1) e g s = by_code q c 1 d.task l g (ap (is_code 1) e)
      by when.Code1 (Some outcome.Skipped) e g s = absurd cc
      by when.Code1 (Some outcome.Failed) e g s = absurd cc

  -- if some dependency passes one test and all pass another, some pass both
  pick : (f g : Dep → Bool) (ds : List Dep) → All (λ d. d.task < length p.map.tasks) ds → list_any f ds ≡ true → list_all g ds ≡ true → (d : Dep) × (d.task < length p.map.tasks) × (f d ≡ true) × (g d ≡ true)
  pick f g [] a h k = absurd cc
  pick f g (d ∷ ds) a h k = ⊎_elim
      (λ (e : f d ≡ true). (d, All-head (λ (d : Dep). d.task < length p.map.tasks) d ds a, e, (and_parts (g d) (list_all g ds) k).0))
      (λ (e : list_any f ds ≡ true). pick f g ds (All-tail (λ (d : Dep). d.task < length p.map.tasks) d ds a) e (and_parts (g d) (list_all g ds) k).1)
      (or_cases (f d) (list_any f ds) h)

  -- what a task is given was so if enough of its dependencies are satisfied
  enough : (q c : ℕ) (some : Bool) (ds : List Dep) → All (λ d. d.task < length p.map.tasks) ds → is_given met q c some ds ≡ true → is_enough some ds (serial_of p m).outcomes ≡ true → is_code c (outcome_of q) ≡ true
  unfolding outcome_of
  enough q c true [] a g s = absurd cc
  enough q c false [] a g s = absurd cc
  enough q c true (d ∷ ds) a g s = let x = pick (λ d. is_satisfied d.when (outcome_of d.task)) (gives met q c) (d ∷ ds) a s g in shown q c x.0 x.1 x.3 x.2
  enough q c false (d ∷ ds) a g s = let x = pick (gives met q c) (λ d. is_satisfied d.when (outcome_of d.task)) (d ∷ ds) a g s in shown q c x.0 x.1 x.2 x.3

  -- a task that is decided to run has enough of its dependencies satisfied
  run_enough : (task : TaskValue) (o : List (Option Outcome)) → is_run (decided task o) ≡ true → is_enough task.some task.deps o ≡ true
  run_enough task o h = by (has_failed task o) (is_enough task.some task.deps o) h
    where
      by : (a b : Bool) → is_run (if a then decision.Fail else (if b then decision.Run else decision.Skip)) ≡ true → b ≡ true
      by true b k = absurd cc
      by false true k = refl
      by false false k = absurd cc

  met_closed : IsClosed p.map.tasks met
  unfolding met
  met_closed = record {
    has_given = λ t q c task e g. ⊎_elim
        (λ (r : is_run (decision_of p m t) ≡ true).
        let is : task_at p t ≡ task = get_or_from_slice_get p.map.tasks t task no_task e in
        let within : t < length p.map.tasks = slice_get_within p.map.tasks t task e in
        let deps : All (λ d. d.task < length p.map.tasks) task.deps = subst (λ (x : TaskValue). All (λ d. d.task < length p.map.tasks) x.deps) is (limits.each t no_task within).deps_within in
        let enough_is : is_enough task.some task.deps (serial_of p m).outcomes ≡ true = subst (λ (x : TaskValue). is_enough x.some x.deps (serial_of p m).outcomes ≡ true) is (run_enough (task_at p t) (serial_of p m).outcomes r) in
        or_right (not (is_run (decision_of p m t))) (is_code c (outcome_of q)) (enough q c task.some task.deps deps g enough_is))
        (λ (r : is_run (decision_of p m t) ≡ false). ap (λ (b : Bool). not b || is_code c (outcome_of q)) r)
        (cases_Bool (is_run (decision_of p m t)));
  }

  -- what a task that runs needs was so
  needed : (t q c : ℕ) → NeedsCode p.map.tasks t q c → is_run (decision_of p m t) ≡ true → is_code c (outcome_of q) ≡ true
  unfolding met
  needed t q c n r = ap (λ (b : Bool). not b || is_code c (outcome_of q)) (sym r) ∙ n met met_closed

  not_both : (o : Option Outcome) → is_code 0 o ≡ true → is_code 1 o ≡ true → ⊥
  not_both None a b = absurd cc
  not_both (Some outcome.Ended0) a b = absurd cc
  not_both (Some outcome.Ended1) a b = absurd cc
  not_both (Some outcome.Skipped) a b = absurd cc
  not_both (Some outcome.Failed) a b = absurd cc

  never_both : (t u : ℕ) → Exclusive p.map.tasks t u → is_run (decision_of p m t) ≡ true → is_run (decision_of p m u) ≡ true → ⊥
  never_both t u x r s = ⊎_elim
      (λ (n : NeedsCode p.map.tasks t x.1 0 × NeedsCode p.map.tasks u x.1 1). not_both (outcome_of x.1) (needed t x.1 0 n.0 r) (needed u x.1 1 n.1 s))
      (λ (n : NeedsCode p.map.tasks t x.1 1 × NeedsCode p.map.tasks u x.1 0). not_both (outcome_of x.1) (needed u x.1 0 n.1 s) (needed t x.1 1 n.0 r))
      x.2

  none_runs : (t : ℕ) → is_run (decision_of p m t) ≡ false → (k : ℕ) → is_in (t, k) (world_of p m).ran ≡ false
  none_runs t r k = ⊎_elim
      (λ (l : t < length p.map.tasks). who_ran p m t k limits l ∙ by (decision_of p m t) r)
      (λ (l : length p.map.tasks ≤ t). none_past p m t k limits l)
      (cases_lt t (length p.map.tasks))
    where
      by : (d : Decision) → is_run d ≡ false → runs_of d p t k ≡ false
      by decision.Fail e = refl
      by decision.Skip e = refl
      by decision.Run e = absurd cc

-- Of two exclusive tasks one has no instance that runs.
pub one_branch : OneBranch
one_branch p m limits t u x = ⊎_elim
    (λ (r : is_run (decision_of p m t) ≡ true). ⊎_elim
    (λ (s : is_run (decision_of p m u) ≡ true). absurd (never_both p m limits t u x r s))
    (λ (s : is_run (decision_of p m u) ≡ false). inr (none_runs p m limits u s))
    (cases_Bool (is_run (decision_of p m u))))
    (λ (r : is_run (decision_of p m t) ≡ false). inl (none_runs p m limits t r))
    (cases_Bool (is_run (decision_of p m t)))
