use Rattle.std.proofs.Common.{◌≡◌, take, length, [], replicate}
use Rattle.plural_cache.proofs.cache.clear_sets.Given as goal

abbrev pub invariant-loop-i : goal.invariant-loop-i
invariant-loop-i l =
    record {
      same : length l.table.items ≡ length l.fn.table.items;
      done : take l.i l.table.items ≡ replicate l.i [];
    }
