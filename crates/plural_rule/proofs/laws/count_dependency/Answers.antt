use Rattle.plural_rule.proofs.SettlingLaws.{counts_dependency}
use Rattle.plural_rule.proofs.laws.count_dependency.Goals as goal

-- The answer meets the contract.
pub returns : goal.returns
returns c = counts_dependency
