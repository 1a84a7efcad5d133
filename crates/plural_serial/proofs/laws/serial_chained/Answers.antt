use Rattle.plural_serial.proofs.WholeLives.{serial_chained}
use Rattle.plural_serial.proofs.laws.serial_chained.Goals as goal

-- The answer meets the contract.
pub returns : goal.returns
returns c = serial_chained
