use Rattle.plural_reach.proofs.SetLemmas.{has-empty}
use Rattle.plural_reach.proofs.set.TaskSet.empty.Goals as goal

-- The answer meets the contract.
pub returns : goal.returns
returns c = has-empty
