use Rattle.plural_counters.proofs.Instances.{load_flags}
use Rattle.plural_counters.proofs.laws.load_flags.Goals as goal

-- The answer meets the contract.
pub returns : goal.returns
returns c = load_flags
