use Rattle.plural_rule.proofs.SettlingLaws.{counts_instance}
use Rattle.plural_rule.proofs.laws.count_instance.Goals as goal

-- The answer meets the contract.
pub returns : goal.returns
returns c = counts_instance
