-- What a finished machine gives: a legal log, and the outcomes and the last memory of the serial run.
use Rattle.std.proofs.Common.{◌≡◌, ℕ, ◌+◌, ◌<◌, List, [], ◌∷◌, ◌++◌, length, map, get_or, take, Some, None, sym, ap, ◌∙◌, subst, arith}
use mathlib.Core.Logic.{dite}
use native.Mathlib.Decide.{ℕ_discrete}
use Rattle.std.proofs.lemmas.List.{same_lists, length-map, length-append, get_or_push, get_or_append_left, length-take-le, get_or-map, get_or-take, get_or_default}
use Rattle.std.proofs.lemmas.Grind.{same_number_lists}
use Rattle.std.proofs.lemmas.Option.{get_or_from_slice_get, slice_get-get_or}
use Rattle.plural_map.specs.declared.outcome.Outcome.{Outcome}
use Rattle.plural_map.specs.declared.outcome.Outcome.TheVariants as outcome
use Rattle.plural_serial.specs.Serial.{serial_of}
use Rattle.plural_serial.proofs.Stretches.{outcomes_each}
use Rattle.plural_trace.specs.Logs.{IsEntry}
use Rattle.plural_trace.specs.Legality.{HasCores}
use Rattle.plural_order.specs.World.{run}
use Rattle.plural_order.proofs.Runs.{runs_long}
use Rattle.plural_rule.specs.Opening.{Opening, world_in, outcome_of, task_count}
use Rattle.plural_words.specs.Closing.{ClosedSeen}
use Rattle.plural_finished.specs.Finishing.{IsClosedRun, AreOutcomes}
use Rattle.plural_finished.specs.Laws.{FinishedIsLegal, FinishedIsLog}
use Rattle.plural_finished.proofs.Instances as instances
use Rattle.plural_finished.proofs.Counts.{entries_count}
use Rattle.plural_finished.proofs.Legal.{has_records, has_tickets, keeps_order, has_cores}

-- The outcomes of one more task.
pub more_outcomes : (o : Opening) (n : ℕ) (os : List Outcome) (x : Outcome) → AreOutcomes o n os → x ≡ outcome_of o n → AreOutcomes o (n + 1) (os ++ x ∷ [])
more_outcomes o n os x are is =
    let long : length (os ++ x ∷ []) ≡ n + 1 = omega (arith, length-append os (x ∷ []), are.one_each) in
    record {
      one_each = long;
      each = λ t h. slice_get-get_or (os ++ x ∷ []) t x (omega (arith, h, long)) ∙ ap Some (dite (ℕ_discrete t n)
          (λ e. get_or_push os x x t (are.one_each ∙ sym e) ∙ (is ∙ ap (outcome_of o) (sym e)))
          (λ ne. let small : t < n = omega (arith, h, ne) in get_or_append_left os (x ∷ []) x t (omega (arith, small, are.one_each)) ∙ get_or_from_slice_get os t (outcome_of o t) x (are.each t small)));
    }

module _ (c : ClosedSeen) (whole : IsClosedRun c) where
  -- The outcomes are those of the serial run.
  pub outcomes_are : (os : List Outcome) → AreOutcomes c.opening (task_count c.opening.program) os → map (λ o. Some o) os ≡ (serial_of c.opening.program c.opening.image).outcomes
  outcomes_are os are =
      let serial = (serial_of c.opening.program c.opening.image).outcomes in
      let long : length serial ≡ task_count c.opening.program = outcomes_each c.opening.program c.opening.image in
      same_lists (map (λ (o : Outcome). Some o) os) serial (omega (arith, length-map os (λ (o : Outcome). Some o), are.one_each, long)) (λ t d h.
      let few : t < length os = omega (arith, h, length-map os (λ (o : Outcome). Some o)) in
      let small : t < task_count c.opening.program = omega (arith, few, are.one_each) in
      get_or-map (λ (o : Outcome). Some o) os t outcome.Failed d few
      ∙ (ap Some (get_or_from_slice_get os t (outcome_of c.opening t) outcome.Failed (are.each t small))
      ∙ (sym ((instances.named c whole).outcomes t small) ∙ get_or_default serial t None d (omega (arith, small, long)))))

  -- The words of the memory are that of the serial run.
  pub memory_is : take c.opening.program.map.words c.words ≡ (serial_of c.opening.program c.opening.image).memory
  memory_is =
      let o = c.opening in let w = world_in o in let serial = whole.closed.kept.rule.run in
      let kept = whole.closed.kept in
      let long : length (take o.program.map.words c.words) ≡ o.program.map.words = length-take-le o.program.map.words c.words (omega (arith, kept.long)) in
      same_number_lists (take o.program.map.words c.words) (run w w.image w.ran) (omega (arith, long, runs_long w serial.world w.ran, serial.words)) (λ a h.
      let small : a < o.program.map.words = omega (arith, h, long) in
      get_or-take o.program.map.words c.words a 0 small ∙ (instances.last c whole).memory a small)
      ∙ (instances.named c whole).memory

-- The log is legal.
pub finished_is_legal : FinishedIsLegal
finished_is_legal f is =
    let c = f.closed in let es = f.entries in record {
      records = has_records c is.run es is.entries;
      tickets = has_tickets c is.run es is.entries;
      order = keeps_order c is.run es is.entries;
      cores = subst (λ n. HasCores n es) (sym is.cores) (has_cores c is.run es is.entries);
      rises = is.entries.rises;
      outcomes = outcomes_are c is.run f.outcomes is.outcomes;
      words = is.image ∙ memory_is c is.run;
    }

-- It can be printed.
pub finished_is_log : FinishedIsLog
finished_is_log f is =
    let c = f.closed in let tasks = task_count c.opening.program in record {
      cores_low = omega (arith, is.cores, is.run.some_core);
      cores_high = omega (arith, is.cores, is.run.few_cores);
      one_each = is.outcomes.one_each;
      few = omega (arith, entries_count c f.entries is.entries, (instances.last c is.run).clock, instances.clock_low c is.run);
      entries = λ i d h. let e = get_or f.entries i d in let own = is.entries.own i d h in subst (IsEntry tasks) (sym own.is) (instances.entry_printed c is.run e.rec.t e.rec.k own.done);
    }
