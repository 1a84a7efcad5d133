use Rattle.plural_core.proofs.LifeLaws.{set_life}
use Rattle.plural_core.proofs.laws.stores_set.Goals as goal

-- The answer meets the contract.
pub returns : goal.returns
returns c = set_life
