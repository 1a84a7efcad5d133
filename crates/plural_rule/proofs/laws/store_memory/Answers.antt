use Rattle.plural_rule.proofs.InstanceLaws.{stores_memory}
use Rattle.plural_rule.proofs.laws.store_memory.Goals as goal

-- The answer meets the contract.
pub returns : goal.returns
returns c = stores_memory
