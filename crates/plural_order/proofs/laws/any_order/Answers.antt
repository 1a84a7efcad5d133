use Rattle.plural_order.proofs.WorldLaws.{any_order}
use Rattle.plural_order.proofs.laws.any_order.Goals as goal

-- The answer meets the contract.
pub returns : goal.returns
returns g c = any_order
