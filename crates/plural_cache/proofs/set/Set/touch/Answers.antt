use Rattle.std.proofs.Common.{arith}
use Rattle.plural_cache.proofs.Orders.{touched_first}
use Rattle.plural_cache.proofs.set.Set.touch.Goals as goal

-- The answer at `else-p-gt0` meets the contract.
pub returns-else-p-gt0 : goal.returns-else-p-gt0
returns-else-p-gt0 c = λ x f. touched_first x c.args.p c.args.self.now (omega arith) f
