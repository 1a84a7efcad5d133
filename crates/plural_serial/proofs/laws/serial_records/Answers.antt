use Rattle.plural_serial.proofs.Records.{serial_records}
use Rattle.plural_serial.proofs.laws.serial_records.Goals as goal

-- The answer meets the contract.
pub returns : goal.returns
returns c = serial_records
