use Rattle.std.proofs.Common.{◌≡◌, [], replicate}
use Rattle.plural_cache.proofs.cache.empty_sets.Given as goal

abbrev pub invariant-loop-i : goal.invariant-loop-i
invariant-loop-i l = l.table.items ≡ replicate l.i []
