use Rattle.std.proofs.Common.{◌≡◌, map}
use Rattle.std.specs.List.{range_with_len}
use Rattle.plural_map.specs.Cycle.{walk}
use Rattle.plural_map.proofs.OrderCuts.{Distinct}
use Rattle.plural_map.proofs.ordering.cycle.Given as goal

abbrev pub invariant-loop-n : goal.invariant-loop-n
invariant-loop-n l = record {
  walked : l.walk.items ≡ map (walk l.tasks) (range_with_len 0 l._n);
  next : l.t ≡ walk l.tasks l._n;
  distinct : Distinct l.walk.items;
}
