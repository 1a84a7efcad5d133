use Rattle.std.proofs.Common.{refl, arith}
use Rattle.std.proofs.lemmas.List.{get_or-replicate}
use Rattle.plural_cache.proofs.buffer.StoreBuffer.new.Goals as goal

-- No class has a pair.
pub invariant_of-result : goal.invariant_of-result
invariant_of-result c = (omega arith, refl, record { all = refl; each = λ r h. get_or-replicate 64 r 0 0 h })
