use Rattle.plural_counters.proofs.AllTold.{all_told}
use Rattle.plural_counters.proofs.laws.all_told.Goals as goal

-- The answer meets the contract.
pub returns : goal.returns
returns c = all_told
