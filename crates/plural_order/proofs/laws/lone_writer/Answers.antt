use Rattle.plural_order.proofs.WorldLaws.{lone_writer}
use Rattle.plural_order.proofs.laws.lone_writer.Goals as goal

-- The answer meets the contract.
pub returns : goal.returns
returns g c = lone_writer
