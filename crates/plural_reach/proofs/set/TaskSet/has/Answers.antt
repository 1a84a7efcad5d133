use Rattle.plural_reach.proofs.SetLemmas.{test_low, test_high}
use Rattle.plural_reach.proofs.set.TaskSet.has.Goals as goal

-- The answer at `then-t-lt128` meets the contract.
pub returns-then-t-lt128 : goal.returns-then-t-lt128
returns-then-t-lt128 c = test_low c.args.self.now c.args.t c.if-t-lt128.true

-- The answer at `else-t-lt128` meets the contract.
pub returns-else-t-lt128 : goal.returns-else-t-lt128
returns-else-t-lt128 c = test_high c.args.self.now c.args.t c.if-t-lt128.false
