use Rattle.plural_rule.proofs.InstanceLaws.{begins_instance}
use Rattle.plural_rule.proofs.laws.begin_instance.Goals as goal

-- The answer meets the contract.
pub returns : goal.returns
returns c = begins_instance
