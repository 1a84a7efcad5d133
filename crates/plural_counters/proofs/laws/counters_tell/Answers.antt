use Rattle.plural_counters.proofs.ToldOutcomes.{counters_tell}
use Rattle.plural_counters.proofs.laws.counters_tell.Goals as goal

-- The answer meets the contract.
pub returns : goal.returns
returns c = counters_tell
