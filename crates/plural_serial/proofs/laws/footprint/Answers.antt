use Rattle.plural_serial.proofs.Footprint.{footprint}
use Rattle.plural_serial.proofs.laws.footprint.Goals as goal

-- The answer meets the contract.
pub returns : goal.returns
returns c = footprint
