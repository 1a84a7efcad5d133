use Rattle.plural_reach.proofs.Places.{before_through}
use Rattle.plural_reach.proofs.laws.before_through.Goals as goal

-- The answer meets the contract.
pub returns : goal.returns
returns c = before_through
