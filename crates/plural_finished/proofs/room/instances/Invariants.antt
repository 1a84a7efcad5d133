use Rattle.std.proofs.Common.{◌≡◌, ◌≤◌, ◌*◌}
use Rattle.plural_rule.specs.Layout.{instances_before}
use Rattle.plural_finished.proofs.room.instances.Given as goal

abbrev pub invariant-loop-task : goal.invariant-loop-task
invariant-loop-task l = (l.count ≡ instances_before l.program l.task-index) × (l.count ≤ 4294967296 * l.task-index)
