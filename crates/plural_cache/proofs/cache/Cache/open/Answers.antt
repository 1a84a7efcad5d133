use Rattle.plural_cache.proofs.Stores.{fresh_table}
use Rattle.plural_cache.proofs.cache.Cache.open.Goals as goal

-- The answer meets the contract.
pub returns : goal.returns
returns c = record { fresh = fresh_table c.args.sets c.args.ways c.in_ok-empty_sets.field-0.items c.in_ok-empty_sets.ensures }
