-- One instance more, and one task more.
use Rattle.std.proofs.Common.{ℕ, ◌≡◌, ◌+◌, ◌<◌, List, [], ◌∷◌, ◌++◌, length, get_or, map, fold, take, Option, Some, Result, Ok, Err, OnOk, IfOk, refl, ap, sym, ◌∙◌, add-one, append-nil}
use Rattle.std.specs.Prelude.{slice_set}
use Rattle.std.proofs.lemmas.List.{map-append, take_more}
use Rattle.std.proofs.lemmas.List.Sums.{fold-append}
use Rattle.plural_map.specs.declared.outcome.Outcome.{Outcome}
use Rattle.plural_map.specs.declared.outcome.Outcome.TheVariants as outcome
use Rattle.plural_map.specs.declared.outcome.Decision.{Decision}
use Rattle.plural_map.specs.declared.outcome.Decision.TheVariants as decision
use Rattle.plural_map.specs.Decisions.{decided}
use Rattle.plural_serial.specs.declared.record_.Record.{Record}
use Rattle.plural_serial.specs.Program.{ProgramValue, task_at}
use Rattle.plural_serial.specs.Serial.{Started, Run, instances, with_instance, by_decision, with_task, end_of, outcome_of}
use Rattle.plural_serial.specs.Answer.{record_of, IsTaskRun}

-- The first k + 1 instances are one more than the first k.
pub instances_more : (p : ProgramValue) (t k : ℕ) (m : List ℕ) → instances p t (k + 1) m ≡ with_instance p t k (instances p t k m)
unfolding instances
instances_more p t k m = rw add-one refl

-- What a function gives of a list with one more element.
pub map_push : {A B : Type 0} (f : A → B) (xs : List A) (x : A) → map f (xs ++ x ∷ []) ≡ map f xs ++ f x ∷ []
map_push f xs x = map-append f xs (x ∷ [])

-- A run of these parts.
run_of : (m : List ℕ) (outcomes : List (Option Outcome)) (ran : List Started) → Run
run_of m outcomes ran = record { memory = m; outcomes = outcomes; ran = ran }

-- A task that a failed predecessor bars is failed, and nothing of it runs.
pub task_failed : (p : ProgramValue) (t : ℕ) (outcomes : List (Option Outcome)) (m : List ℕ) (records : List Record)
    → decided (task_at p t) outcomes ≡ decision.Fail → IsTaskRun p t outcomes m m records records outcome.Failed
unfolding with_task
task_failed p t outcomes m records e = record {
  ran = [];
  records = sym (append-nil records);
  run = λ earlier. ap (λ (d : Decision). by_decision d p t (record { memory = m; outcomes = outcomes; ran = earlier })) e
      ∙ ap (λ (ran : List Started). let r : Run = record { memory = m; outcomes = slice_set outcomes t (Some outcome.Failed); ran = ran } in r) (sym (append-nil earlier));
}

-- A task whose dependencies aren't satisfied is skipped, and nothing of it runs.
pub task_skipped : (p : ProgramValue) (t : ℕ) (outcomes : List (Option Outcome)) (m : List ℕ) (records : List Record)
    → decided (task_at p t) outcomes ≡ decision.Skip → IsTaskRun p t outcomes m m records records outcome.Skipped
unfolding with_task
task_skipped p t outcomes m records e = record {
  ran = [];
  records = sym (append-nil records);
  run = λ earlier. ap (λ (d : Decision). by_decision d p t (record { memory = m; outcomes = outcomes; ran = earlier })) e
      ∙ ap (λ (ran : List Started). let r : Run = record { memory = m; outcomes = slice_set outcomes t (Some outcome.Skipped); ran = ran } in r) (sym (append-nil earlier));
}

-- A task that runs brings about what its instances do.
task_ran : (p : ProgramValue) (t : ℕ) (outcomes : List (Option Outcome)) (before after : List ℕ) (old new : List Record) (o : Outcome)
    → decided (task_at p t) outcomes ≡ decision.Run
    → after ≡ (instances p t (task_at p t).quota before).memory
    → new ≡ old ++ map (record_of p) (instances p t (task_at p t).quota before).ran
    → o ≡ outcome_of (map (end_of p) (instances p t (task_at p t).quota before).ran)
    → IsTaskRun p t outcomes before after old new o
unfolding with_task
task_ran p t outcomes before after old new o e m r q = record {
  ran = (instances p t (task_at p t).quota before).ran;
  records = r;
  run = λ earlier. ap (λ (d : Decision). by_decision d p t (record { memory = before; outcomes = outcomes; ran = earlier })) e
      ∙ sym (ap (λ (x : List ℕ). let r : Run = record { memory = x; outcomes = slice_set outcomes t (Some o); ran = earlier ++ (instances p t (task_at p t).quota before).ran } in r) m
      ∙ ap (λ (x : Outcome). let r : Run = record { memory = (instances p t (task_at p t).quota before).memory; outcomes = slice_set outcomes t (Some x); ran = earlier ++ (instances p t (task_at p t).quota before).ran } in r) q);
}

-- The same of a result.
pub task_ran_if_ok : {E : Type 0} (p : ProgramValue) (t : ℕ) (outcomes : List (Option Outcome)) (before after : List ℕ) (old new : List Record) (result : Result Outcome E)
    → decided (task_at p t) outcomes ≡ decision.Run
    → OnOk result (after ≡ (instances p t (task_at p t).quota before).memory)
    → OnOk result (new ≡ old ++ map (record_of p) (instances p t (task_at p t).quota before).ran)
    → IfOk result (λ o. o ≡ outcome_of (map (end_of p) (instances p t (task_at p t).quota before).ran))
    → IfOk result (λ o. IsTaskRun p t outcomes before after old new o)
task_ran_if_ok p t outcomes before after old new (Ok o) e m r q = task_ran p t outcomes before after old new o e m r q
task_ran_if_ok p t outcomes before after old new (Err x) e m r q = tt

-- The serial run as far as the first i tasks of the order, with its records.
pub record IsSoFar (p : ProgramValue) (opening : Run) (tasks : List ℕ) (m : List ℕ) (outcomes : List (Option Outcome)) (kept : List Record) : Type 0 where
  pub ran : List Started
  pub records : kept ≡ map (record_of p) ran
  pub run : record { memory = m; outcomes = outcomes; ran = ran } ≡ fold (with_task p) opening tasks

-- One task more.
pub so_far_more : (p : ProgramValue) (opening : Run) (order : List ℕ) (i t : ℕ) (outcomes : List (Option Outcome)) (before after : List ℕ) (old new : List Record) (o : Outcome)
    → i < length order → t ≡ get_or order i 0
    → IsSoFar p opening (take i order) before outcomes old
    → IsTaskRun p t outcomes before after old new o
    → IsSoFar p opening (take (i + 1) order) after (slice_set outcomes t (Some o)) new
so_far_more p opening order i t outcomes before after old new o h at s r = record {
  ran = s.ran ++ r.ran;
  records = r.records ∙ ap (λ (xs : List Record). xs ++ map (record_of p) r.ran) s.records ∙ sym (map-append (record_of p) s.ran r.ran);
  run = sym (r.run s.ran)
      ∙ ap (λ (x : Run). with_task p x t) s.run
      ∙ ap (λ (u : ℕ). with_task p (fold (with_task p) opening (take i order)) u) at
      ∙ sym (fold-append (with_task p) opening (take i order) (get_or order i 0 ∷ []))
      ∙ ap (λ (us : List ℕ). fold (with_task p) opening us) (sym (take_more order i 0 h));
}
