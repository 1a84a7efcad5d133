use Rattle.plural_map.proofs.OrderPlaces.{whole_order}
use Rattle.plural_map.proofs.laws.whole_order.Goals as goal

-- The answer meets the contract.
pub returns : goal.returns
returns c = whole_order
