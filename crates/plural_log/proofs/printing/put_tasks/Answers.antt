use Rattle.std.proofs.Common.{◌∙◌, append_assoc, take}
use Rattle.plural_log.specs.Print.{task_texts}
use Rattle.plural_log.proofs.TaskTexts.{texts_next}
use Rattle.plural_log.proofs.printing.put_tasks.Goals as goal

-- One more task line is printed.
pub loop-t-preserved : goal.loop-t-preserved
loop-t-preserved c =
    let ts = c.args.tasks.now in
    let os = c.args.outcomes.now in
    let more = texts_next ts os c.loop-t.t c.index-tasks-t.result _ c.loop-t-test.true c.requires c.index-tasks-t.is in
    c.in_ok-put_task.ensures ∙ rw (c.loop-t.invariant, more) (append_assoc c.args.out.now.items (task_texts (take c.loop-t.t ts) (take c.loop-t.t os)) _)
