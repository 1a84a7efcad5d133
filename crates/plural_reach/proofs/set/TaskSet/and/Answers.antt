use Rattle.plural_reach.proofs.SetLemmas.{has-and}
use Rattle.plural_reach.proofs.set.TaskSet.and.Goals as goal

-- The answer meets the contract.
pub returns : goal.returns
returns c = λ u. has-and c.args.self c.args.other u
