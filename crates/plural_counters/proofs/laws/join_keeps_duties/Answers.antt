use Rattle.plural_counters.proofs.Views.{join_keeps_duties}
use Rattle.plural_counters.proofs.laws.join_keeps_duties.Goals as goal

-- The answer meets the contract.
pub returns : goal.returns
returns g c = join_keeps_duties
