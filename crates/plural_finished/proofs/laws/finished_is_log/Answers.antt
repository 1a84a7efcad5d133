use Rattle.plural_finished.proofs.Results.{finished_is_log}
use Rattle.plural_finished.proofs.laws.finished_is_log.Goals as goal

-- The answer meets the contract.
pub returns : goal.returns
returns c = finished_is_log
