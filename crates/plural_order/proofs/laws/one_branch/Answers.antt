use Rattle.plural_order.proofs.Branches.{one_branch}
use Rattle.plural_order.proofs.laws.one_branch.Goals as goal

-- The answer meets the contract.
pub returns : goal.returns
returns c = one_branch
