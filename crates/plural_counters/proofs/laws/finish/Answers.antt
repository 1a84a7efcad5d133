use Rattle.plural_counters.proofs.Instances.{finish}
use Rattle.plural_counters.proofs.laws.finish.Goals as goal

-- The answer meets the contract.
pub returns : goal.returns
returns c = finish
