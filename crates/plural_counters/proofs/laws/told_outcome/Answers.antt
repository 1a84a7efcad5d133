use Rattle.plural_counters.proofs.ToldOutcomes.{told_outcome}
use Rattle.plural_counters.proofs.laws.told_outcome.Goals as goal

-- The answer meets the contract.
pub returns : goal.returns
returns c = told_outcome
