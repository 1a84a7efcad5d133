use Rattle.plural_rule.proofs.InstanceLaws.{loads_memory}
use Rattle.plural_rule.proofs.laws.load_memory.Goals as goal

-- The answer meets the contract.
pub returns : goal.returns
returns c = loads_memory
