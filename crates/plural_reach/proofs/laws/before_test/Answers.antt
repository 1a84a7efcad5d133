use Rattle.plural_reach.proofs.Ranks.{before_test}
use Rattle.plural_reach.proofs.laws.before_test.Goals as goal

-- The answer meets the contract.
pub returns : goal.returns
returns c = before_test
