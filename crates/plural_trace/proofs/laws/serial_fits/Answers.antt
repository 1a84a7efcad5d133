use Rattle.plural_trace.proofs.SerialResults.{serial_fits}
use Rattle.plural_trace.proofs.laws.serial_fits.Goals as goal

-- The answer meets the contract.
pub returns : goal.returns
returns c = serial_fits
