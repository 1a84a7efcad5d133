use Rattle.plural_trace.proofs.SerialLegal.{serial_is_legal}
use Rattle.plural_trace.proofs.laws.serial_is_legal.Goals as goal

-- The answer meets the contract.
pub returns : goal.returns
returns c = serial_is_legal
