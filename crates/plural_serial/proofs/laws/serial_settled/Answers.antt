use Rattle.plural_serial.proofs.Stretches.{serial_settled}
use Rattle.plural_serial.proofs.laws.serial_settled.Goals as goal

-- The answer meets the contract.
pub returns : goal.returns
returns c = serial_settled
