use Rattle.plural_reach.proofs.Ranks.{before_rises}
use Rattle.plural_reach.proofs.laws.before_rises.Goals as goal

-- The answer meets the contract.
pub returns : goal.returns
returns c = before_rises
