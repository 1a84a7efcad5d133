use Rattle.plural_order.proofs.WorldLaws.{value_along}
use Rattle.plural_order.proofs.laws.value_along.Goals as goal

-- The answer meets the contract.
pub returns : goal.returns
returns g c = value_along
