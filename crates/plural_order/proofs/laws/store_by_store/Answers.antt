use Rattle.plural_order.proofs.WorldLaws.{store_by_store}
use Rattle.plural_order.proofs.laws.store_by_store.Goals as goal

-- The answer meets the contract.
pub returns : goal.returns
returns g c = store_by_store
