use Rattle.plural_rule.proofs.InstanceLaws.{ends_instance}
use Rattle.plural_rule.proofs.laws.end_instance.Goals as goal

-- The answer meets the contract.
pub returns : goal.returns
returns c = ends_instance
