use Rattle.std.proofs.Common.{◌<◌, ◌∙◌, refl, ap, subst, length, get_or, Some, arith}
use Rattle.std.proofs.Math.ListN.{length-set}
use Rattle.plural_map.specs.Value.{MapValue}
use Rattle.plural_map.specs.Limits.{IsMap}
use Rattle.plural_serial.specs.Serial.{opening}
use Rattle.plural_serial.proofs.Few.{few_so_far}
use Rattle.plural_serial.proofs.Runs.{so_far_more}
use Rattle.plural_serial.proofs.TaskOutcomes.{next_within, predecessors_there, more_done, all_settled}
use Rattle.std.proofs.lemmas.List.Elements.{All-same}
use Rattle.plural_serial.specs.Answer.{AnswerValue}
use Rattle.plural_serial.specs.declared.record_.Record.{Record}
use Rattle.plural_serial.proofs.RunTasks.{records_within}
use Rattle.plural_serial.proofs.machine.serial.Goals as goal

-- The call of `task_outcome` has what its clause `may_run` requires.
pub task_outcome-requires-clause-may_run : goal.task_outcome-requires-clause-may_run
task_outcome-requires-clause-may_run c =
    let limits = subst (λ (m : MapValue). IsMap m) c.map-map.ensures c.order-t-items.ensures.limits in
    record {
      shape = c.loop-t.invariant.shape;
      words = c.loop-t.invariant.words;
      whole = limits.words_whole;
      task = next_within c.args.program.now.map _ c.loop-t.t-index limits c.loop-t.invariant.order (omega arith);
    }

-- The call of `task_outcome` has what its clause `decidable` requires.
pub task_outcome-requires-clause-decidable : goal.task_outcome-requires-clause-decidable
task_outcome-requires-clause-decidable c =
    rw c.deref.ensures.value
    (predecessors_there c.args.program.now.map _ c.loop-t.outcomes.items c.loop-t.t-index (subst (λ (m : MapValue). IsMap m) c.map-map.ensures c.order-t-items.ensures.limits) c.loop-t.invariant.order (omega arith)
    c.loop-t.invariant.settled)

-- The call of `index_mut` has what it requires.
pub index_mut-requires : goal.index_mut-requires
index_mut-requires c =
    let within = next_within c.args.program.now.map _ c.loop-t.t-index (subst (λ (m : MapValue). IsMap m) c.map-map.ensures c.order-t-items.ensures.limits) c.loop-t.invariant.order (omega arith) in
    omega (arith, within, c.loop-t.invariant.count)

-- A turn of `loop-t` keeps its invariant.
pub loop-t-preserved : goal.loop-t-preserved
loop-t-preserved c =
    let i = c.loop-t.invariant in
    let items = c.order-t-items.result.now in
    let within = next_within c.args.program.now.map items c.loop-t.t-index (subst (λ (m : MapValue). IsMap m) c.map-map.ensures c.order-t-items.ensures.limits) i.order (omega arith) in
    let here : get_or items c.loop-t.t-index 0 < length c.loop-t.outcomes.items = omega (arith, within, i.count) in
    let ran = rw c.deref.ensures.value at c.in_ok-outcome.ensures.all in
    record {
      order = i.order;
      shape = c.task_outcome.ensures.shape;
      words = c.task_outcome.ensures.words ∙ i.words;
      count = length-set c.loop-t.outcomes.items (get_or items c.loop-t.t-index 0) (Some c.in_ok-outcome.outcome) ∙ i.count;
      settled = more_done items c.loop-t.outcomes.items c.loop-t.t-index (get_or items c.loop-t.t-index 0) c.in_ok-outcome.outcome (omega arith) refl here i.settled;
      so_far = so_far_more c.args.program.now (opening c.args.program.now c.args.image.now) items c.loop-t.t-index (get_or items c.loop-t.t-index 0) c.loop-t.outcomes.items c.loop-t.flat.words c.task_outcome.new.flat.words
          c.loop-t.records.items c.task_outcome.new.records.items c.in_ok-outcome.outcome (omega arith) refl i.so_far ran;
    }

-- The call of `settled` has what it requires.
pub settled-requires : goal.settled-requires
settled-requires c =
    rw c.deref-2.ensures.value
    (all_settled c.args.program.now.map c.order-t-items.result.now c.loop-t.outcomes.items c.loop-t.t-index (subst (λ (m : MapValue). IsMap m) c.map-map.ensures c.order-t-items.ensures.limits) c.loop-t.invariant.order
    (omega arith) c.loop-t.invariant.count c.loop-t.invariant.settled)

-- The answer meets the clause `tasks`.
pub returns-clause-tasks : goal.returns-clause-tasks
returns-clause-tasks c =
    let limits = subst (λ (m : MapValue). IsMap m) c.map-map.ensures c.order-t-items.ensures.limits in
    All-same (λ (r : Record). r.t < length c.args.program.now.map.tasks) c.of.result.records c.loop-t.records.items (ap (λ (a : AnswerValue). a.records) c.of.ensures)
    (records_within c.args.program.now c.args.image.now c.loop-t.flat.words c.order-t-items.result.now c.loop-t.t-index c.loop-t.outcomes.items c.loop-t.records.items limits c.loop-t.invariant.order c.loop-t.invariant.so_far)

-- The answer meets the clause `few`.
pub returns-clause-few : goal.returns-clause-few
returns-clause-few c =
    rw c.of.ensures
    (few_so_far c.args.program.now c.args.image.now c.order-t-items.result.now c.loop-t.t-index c.loop-t.flat.words c.loop-t.outcomes.items c.loop-t.records.items
    (subst (λ (m : MapValue). IsMap m) c.map-map.ensures c.order-t-items.ensures.limits) c.loop-t.invariant.order (omega arith) c.loop-t.invariant.so_far)
