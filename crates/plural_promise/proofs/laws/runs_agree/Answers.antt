use Rattle.plural_promise.proofs.AgreeingRuns.{runs_agree}
use Rattle.plural_promise.proofs.laws.runs_agree.Goals as goal

-- All runs of an input agree.
pub returns : goal.returns
returns c = runs_agree
