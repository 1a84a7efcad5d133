use Rattle.plural_rule.proofs.LastWords.{told_outcome}
use Rattle.plural_rule.proofs.laws.told_outcome.Goals as goal

-- The answer meets the contract.
pub returns : goal.returns
returns c = told_outcome
