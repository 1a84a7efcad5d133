use Rattle.std.specs.Option.{option_to_list}
use Rattle.plural_map_text.proofs.TaskLines.{names_more}
use Rattle.plural_map_text.proofs.read.task_names.Goals as goal

-- One more line adds its name, if it is a task line.
pub loop-line-preserved : goal.loop-line-preserved
loop-line-preserved c = record {
  so_far = names_more c.args.lines.now c.loop-line.line-index _ c.loop-line.names.items c.push_names.new.names.items (option_to_list c.told_name.result) c.loop-line-test.true c.loop-line.invariant.so_far c.told_name.ensures c.in_ok-push_names.ensures.ok;
  few = c.in_ok-push_names.ensures.few;
}
