use Rattle.std.proofs.Common.{◌≡◌, ◌++◌, take}
use Rattle.std.specs.List.{flat_map}
use Rattle.plural_rule.specs.First.{first_five}
use Rattle.plural_words.proofs.opening.push_fives.Given as goal

abbrev pub invariant-loop-task : goal.invariant-loop-task
invariant-loop-task l = l.words.items ≡ l.fn.words.items ++ flat_map first_five (take l.task-index l.tasks)
