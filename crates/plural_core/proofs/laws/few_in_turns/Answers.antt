use Rattle.plural_core.proofs.LifeLaws.{few_life}
use Rattle.plural_core.proofs.laws.few_in_turns.Goals as goal

-- The answer meets the contract.
pub returns : goal.returns
returns c = few_life
