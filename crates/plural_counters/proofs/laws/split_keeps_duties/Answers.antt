use Rattle.plural_counters.proofs.Views.{split_keeps_duties}
use Rattle.plural_counters.proofs.laws.split_keeps_duties.Goals as goal

-- The answer meets the contract.
pub returns : goal.returns
returns g c = split_keeps_duties
