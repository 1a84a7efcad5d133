use Rattle.plural_reach.proofs.SetLemmas.{has-or}
use Rattle.plural_reach.proofs.set.TaskSet.or.Goals as goal

-- The answer meets the contract.
pub returns : goal.returns
returns c = λ u. has-or c.args.self c.args.other u
