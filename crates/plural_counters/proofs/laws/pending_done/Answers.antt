use Rattle.plural_counters.proofs.Instances.{pending_done}
use Rattle.plural_counters.proofs.laws.pending_done.Goals as goal

-- The answer meets the contract.
pub returns : goal.returns
returns c = pending_done
