use Rattle.std.proofs.Common.{◌≡◌, map, take}
use Rattle.plural_map.specs.Lookup.{name_at}
use Rattle.plural_map.proofs.ordering.names.Given as goal

abbrev pub invariant-loop-t : goal.invariant-loop-t
invariant-loop-t l = l.list.items ≡ map (name_at l.tasks) (take l.t-index l.numbers)
