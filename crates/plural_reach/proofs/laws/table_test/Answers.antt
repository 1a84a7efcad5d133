use Rattle.plural_reach.proofs.Ranks.{table_test}
use Rattle.plural_reach.proofs.laws.table_test.Goals as goal

-- The answer meets the contract.
pub returns : goal.returns
returns c = table_test
