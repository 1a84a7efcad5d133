use Rattle.plural_counters.proofs.Instances.{count}
use Rattle.plural_counters.proofs.laws.count.Goals as goal

-- The answer meets the contract.
pub returns : goal.returns
returns c = count
