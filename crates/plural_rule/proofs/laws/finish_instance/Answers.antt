use Rattle.plural_rule.proofs.InstanceLaws.{finishes_instance}
use Rattle.plural_rule.proofs.laws.finish_instance.Goals as goal

-- The answer meets the contract.
pub returns : goal.returns
returns c = finishes_instance
