use Rattle.plural_core.proofs.LifeLaws.{causes_known}
use Rattle.plural_core.proofs.laws.causes_known.Goals as goal

-- The answer meets the contract.
pub returns : goal.returns
returns c = causes_known
