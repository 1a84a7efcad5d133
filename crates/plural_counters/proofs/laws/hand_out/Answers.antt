use Rattle.plural_counters.proofs.Instances.{hand_out}
use Rattle.plural_counters.proofs.laws.hand_out.Goals as goal

-- The answer meets the contract.
pub returns : goal.returns
returns c = hand_out
