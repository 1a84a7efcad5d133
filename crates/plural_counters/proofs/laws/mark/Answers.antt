use Rattle.plural_counters.proofs.Instances.{mark}
use Rattle.plural_counters.proofs.laws.mark.Goals as goal

-- The answer meets the contract.
pub returns : goal.returns
returns c = mark
