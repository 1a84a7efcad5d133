use Rattle.plural_order.proofs.WorldLaws.{writers_first}
use Rattle.plural_order.proofs.laws.writers_first.Goals as goal

-- The answer meets the contract.
pub returns : goal.returns
returns g c = writers_first
