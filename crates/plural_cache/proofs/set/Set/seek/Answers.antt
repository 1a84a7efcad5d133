use Rattle.std.proofs.Common.{sym}
use Rattle.plural_cache.proofs.Orders.{brought_none}
use Rattle.plural_cache.proofs.set.Set.seek.Goals as goal

-- The answer at `in-None` meets the clause `order`.
pub returns-in-None-clause-order : goal.returns-in-None-clause-order
returns-in-None-clause-order c = sym (brought_none c.args.x c.args.self.now c.in-None.ensures.none)
