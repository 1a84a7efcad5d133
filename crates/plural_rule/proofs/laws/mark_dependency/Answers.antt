use Rattle.plural_rule.proofs.SettlingLaws.{marks_dependency}
use Rattle.plural_rule.proofs.laws.mark_dependency.Goals as goal

-- The answer meets the contract.
pub returns : goal.returns
returns c = marks_dependency
