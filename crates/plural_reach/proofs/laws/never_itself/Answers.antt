use Rattle.plural_reach.proofs.Ranks.{never_itself}
use Rattle.plural_reach.proofs.laws.never_itself.Goals as goal

-- The answer meets the contract.
pub returns : goal.returns
returns c = never_itself
