use Rattle.plural_counters.proofs.Views.{one_view_replaces}
use Rattle.plural_counters.proofs.laws.one_view_replaces.Goals as goal

-- The answer meets the contract.
pub returns : goal.returns
returns g c = one_view_replaces
