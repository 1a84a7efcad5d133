use Rattle.plural_promise.proofs.VerifiedRuns.{serial_output_is_legal}
use Rattle.plural_promise.proofs.laws.serial_output_is_legal.Goals as goal

-- `verify` finds the output of `serial` legal.
pub returns : goal.returns
returns c = serial_output_is_legal
