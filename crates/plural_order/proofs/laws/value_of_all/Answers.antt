use Rattle.plural_order.proofs.WorldLaws.{value_of_all}
use Rattle.plural_order.proofs.laws.value_of_all.Goals as goal

-- The answer meets the contract.
pub returns : goal.returns
returns g c = value_of_all
