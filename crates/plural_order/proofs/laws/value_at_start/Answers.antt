use Rattle.plural_order.proofs.WorldLaws.{value_at_start}
use Rattle.plural_order.proofs.laws.value_at_start.Goals as goal

-- The answer meets the contract.
pub returns : goal.returns
returns g c = value_at_start
