use Rattle.plural_promise.proofs.AgreeingRuns.{serial_agrees}
use Rattle.plural_promise.proofs.laws.serial_agrees.Goals as goal

-- A run agrees with the serial run.
pub returns : goal.returns
returns c = serial_agrees
