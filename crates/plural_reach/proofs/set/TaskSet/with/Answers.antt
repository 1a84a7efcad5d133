use Rattle.plural_reach.proofs.SetLemmas.{has-with_low, has-with_high}
use Rattle.plural_reach.proofs.set.TaskSet.with.Goals as goal

-- The answer at `then-t-lt128` meets the contract.
pub returns-then-t-lt128 : goal.returns-then-t-lt128
returns-then-t-lt128 c = λ u. has-with_low c.args.self c.args.t u c.if-t-lt128.true

-- The answer at `else-t-lt128` meets the contract.
pub returns-else-t-lt128 : goal.returns-else-t-lt128
returns-else-t-lt128 c = λ u. has-with_high c.args.self c.args.t u c.if-t-lt128.false c.requires
