use Rattle.plural_finished.proofs.Results.{finished_is_legal}
use Rattle.plural_finished.proofs.laws.finished_is_legal.Goals as goal

-- The answer meets the contract.
pub returns : goal.returns
returns c = finished_is_legal
