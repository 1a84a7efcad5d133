use Rattle.std.proofs.Common.{◌≡◌, ◌++◌, take}
use Rattle.std.specs.List.{flat_map}
use Rattle.plural_map_text.specs.Print.{task_text}
use Rattle.plural_map_text.proofs.printing.put_tasks.Given as goal

abbrev pub invariant-loop-task : goal.invariant-loop-task
invariant-loop-task l = l.out.items ≡ l.fn.out.items ++ flat_map (task_text l.tasks) (take l.task-index l.tasks)
