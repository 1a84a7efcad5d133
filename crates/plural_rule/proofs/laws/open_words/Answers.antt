use Rattle.plural_rule.proofs.FirstWords.{opens_words}
use Rattle.plural_rule.proofs.laws.open_words.Goals as goal

-- The answer meets the contract.
pub returns : goal.returns
returns c = opens_words
