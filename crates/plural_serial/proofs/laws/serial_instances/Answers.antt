use Rattle.plural_serial.proofs.Stretches.{serial_instances}
use Rattle.plural_serial.proofs.laws.serial_instances.Goals as goal

-- The answer meets the contract.
pub returns : goal.returns
returns c = serial_instances
