use Rattle.std.proofs.Common.{◌≡◌, take}
use Rattle.std.specs.Prelude.{sum_by}
use Rattle.plural_map.specs.Value.{TaskValue}
use Rattle.plural_cli.proofs.checking.instance_count.Given as goal

abbrev pub invariant-loop-task : goal.invariant-loop-task
invariant-loop-task l = l.count ≡ sum_by (λ (t : TaskValue). t.quota) (take l.task-index l.tasks)
