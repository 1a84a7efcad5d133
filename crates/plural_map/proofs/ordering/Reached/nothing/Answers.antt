use Rattle.std.proofs.Common.{rules}
use Rattle.plural_map.proofs.FlagLemmas.{tells_none}
use Rattle.plural_map.proofs.ordering.Reached.nothing.Goals as goal

-- No number is told before any is reached.
pub invariant_of-result : goal.invariant_of-result
invariant_of-result c = rw c.new.ensures.items (tells_none c.in_ok-vec.field-0.items (search rules))
