use Rattle.plural_reach.proofs.Ranks.{before_decided}
use Rattle.plural_reach.proofs.laws.before_decided.Goals as goal

-- The answer meets the contract.
pub returns : goal.returns
returns c = before_decided
