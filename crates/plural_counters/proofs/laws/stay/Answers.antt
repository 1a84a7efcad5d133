use Rattle.plural_counters.proofs.Instances.{stay}
use Rattle.plural_counters.proofs.laws.stay.Goals as goal

-- The answer meets the contract.
pub returns : goal.returns
returns c = stay
