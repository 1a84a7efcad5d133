use Rattle.plural_rule.proofs.LastWords.{closes_words}
use Rattle.plural_rule.proofs.laws.close_words.Goals as goal

-- The answer meets the contract.
pub returns : goal.returns
returns c = closes_words
