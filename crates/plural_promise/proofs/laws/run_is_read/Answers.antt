use Rattle.plural_promise.proofs.RunOutputs.{run_is_read}
use Rattle.plural_promise.proofs.laws.run_is_read.Goals as goal

-- What `run` writes is read again.
pub returns : goal.returns
returns c = run_is_read
