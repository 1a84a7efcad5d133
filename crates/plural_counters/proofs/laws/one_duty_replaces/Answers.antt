use Rattle.plural_counters.proofs.Views.{one_duty_replaces}
use Rattle.plural_counters.proofs.laws.one_duty_replaces.Goals as goal

-- The answer meets the contract.
pub returns : goal.returns
returns g c = one_duty_replaces
