use Rattle.std.proofs.Common.{◌∙◌, ap, length, List, subst, arith}
use Rattle.std.proofs.lemmas.List.{length-map}
use Rattle.plural_map.specs.declared.outcome.Dep.{Dep}
use Rattle.plural_map.specs.Value.{TaskValue, MapValue}
use Rattle.plural_sync.specs.Lists.{rows_of, HasGained}
use Rattle.plural_sync.proofs.Rows.{none_yet, empty_rows, one_task_more, all_tasks}
use Rattle.plural_sync.proofs.lists.lists_of.Goals as goal

-- Before the first task no list has a successor.
pub loop-u-init : goal.loop-u-init
loop-u-init c =
    let count = ap length (c.tasks-count.ensures.value ∙ ap (λ (m : MapValue). m.tasks) c.map.ensures) in
    none_yet c.args.program.now.map.tasks (rows_of c.in_ok-lists.lists.items) (length-map c.in_ok-lists.lists.items (λ l. l.items) ∙ (c.in_ok-lists.ensures.count ∙ count)) (λ t h. empty_rows c.in_ok-lists.lists.items c.in_ok-lists.ensures.empty t)

-- One task more is added to the lists of those that it depends on.
pub loop-u-preserved : goal.loop-u-preserved
loop-u-preserved c =
    let deps = c.deps.ensures ∙ ap (λ (t : TaskValue). t.deps) c.task.ensures.value in
    one_task_more c.args.program.now.map.tasks c.loop-u.u (rows_of c.loop-u.lists.items) (rows_of c.add_task.new.lists.items) c.loop-u.invariant
    (subst (λ (ds : List Dep). HasGained ds c.loop-u.u (rows_of c.loop-u.lists.items) (rows_of c.add_task.new.lists.items)) deps c.in_ok-add_task.ensures)

-- After the last task the lists are those of the map.
pub returns : goal.returns
returns c =
    let tasks = c.tasks-count.ensures.value ∙ ap (λ (m : MapValue). m.tasks) c.map.ensures in
    let few = c.tasks-count.ensures.limits.few_tasks in
    all_tasks c.args.program.now.map.tasks c.loop-u.u (rows_of c.loop-u.lists.items) (omega (arith, few, ap (λ (m : MapValue). length m.tasks) c.map.ensures)) (omega (arith, c.loop-u.auto.u-end, c.loop-u-test.false, ap length tasks)) c.loop-u.invariant
