use Rattle.plural_map.proofs.DeclarationOrder.{declared_order}
use Rattle.plural_map.proofs.laws.declared_order.Goals as goal

-- The answer meets the contract.
pub returns : goal.returns
returns c = declared_order
