use Rattle.plural_rule.proofs.InstanceLaws.{loses_instance}
use Rattle.plural_rule.proofs.laws.lose_instance.Goals as goal

-- The answer meets the contract.
pub returns : goal.returns
returns c = loses_instance
