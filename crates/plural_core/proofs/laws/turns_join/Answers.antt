use Rattle.plural_core.proofs.LifeLaws.{turns_join}
use Rattle.plural_core.proofs.laws.turns_join.Goals as goal

-- The answer meets the contract.
pub returns : goal.returns
returns c = turns_join
