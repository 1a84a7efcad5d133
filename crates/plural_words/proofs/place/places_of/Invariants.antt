use Rattle.std.proofs.Common.{◌≤◌, ◌+◌, ◌*◌}
use Rattle.plural_words.specs.Places.{ArePlaces}
use Rattle.plural_words.proofs.place.places_of.Given as goal

abbrev pub invariant-loop-task : goal.invariant-loop-task
invariant-loop-task l = ArePlaces l.program l.task-index l.places.items l.next × (l.next ≤ 1048576 + 34359738368 * l.task-index)
