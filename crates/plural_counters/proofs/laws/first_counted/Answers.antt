use Rattle.plural_counters.proofs.Openings.{first_counted}
use Rattle.plural_counters.proofs.laws.first_counted.Goals as goal

-- The answer meets the contract.
pub returns : goal.returns
returns g c = first_counted
