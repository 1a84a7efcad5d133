use Rattle.plural_promise.proofs.RunOutputs.{serial_is_read}
use Rattle.plural_promise.proofs.laws.serial_is_read.Goals as goal

-- What `serial` writes is read again.
pub returns : goal.returns
returns c = serial_is_read
