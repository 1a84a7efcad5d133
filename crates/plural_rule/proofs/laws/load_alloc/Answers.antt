use Rattle.plural_rule.proofs.InstanceLaws.{loads_alloc}
use Rattle.plural_rule.proofs.laws.load_alloc.Goals as goal

-- The answer meets the contract.
pub returns : goal.returns
returns c = loads_alloc
