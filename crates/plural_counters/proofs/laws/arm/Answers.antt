use Rattle.plural_counters.proofs.Decisions.{arm}
use Rattle.plural_counters.proofs.laws.arm.Goals as goal

-- The answer meets the contract.
pub returns : goal.returns
returns c = arm
