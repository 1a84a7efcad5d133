use Rattle.plural_promise.proofs.VerifiedRuns.{run_is_legal}
use Rattle.plural_promise.proofs.laws.run_is_legal.Goals as goal

-- `verify` finds the output of `run` legal.
pub returns : goal.returns
returns c = run_is_legal
