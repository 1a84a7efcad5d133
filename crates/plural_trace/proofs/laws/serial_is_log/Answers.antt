use Rattle.plural_trace.proofs.SerialLog.{serial_is_log}
use Rattle.plural_trace.proofs.laws.serial_is_log.Goals as goal

-- The answer meets the contract.
pub returns : goal.returns
returns c = serial_is_log
