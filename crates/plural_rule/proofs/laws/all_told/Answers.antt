use Rattle.plural_rule.proofs.LastWords.{all_told}
use Rattle.plural_rule.proofs.laws.all_told.Goals as goal

-- The answer meets the contract.
pub returns : goal.returns
returns c = all_told
