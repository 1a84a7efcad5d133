use Rattle.std.proofs.Common.{◌≡◌, map, take}
use Rattle.plural_map.specs.Value.{TaskValue}
use Rattle.plural_bundle.specs.Value.{pc_of}
use Rattle.plural_bundle.proofs.program.entries.Given as goal

abbrev pub invariant-loop-task : goal.invariant-loop-task
invariant-loop-task l = l.entries.items ≡ map (λ (t : TaskValue). pc_of l.labels t.entry) (take l.task-index l.tasks)
