use Rattle.plural_rule.proofs.InstanceLaws.{takes_instance}
use Rattle.plural_rule.proofs.laws.take_instance.Goals as goal

-- The answer meets the contract.
pub returns : goal.returns
returns c = takes_instance
