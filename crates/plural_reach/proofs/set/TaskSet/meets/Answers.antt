use Rattle.std.proofs.Common.{⊎_elim}
use Rattle.plural_reach.proofs.SetLemmas.{number_low, number_high, number_bits}
use Rattle.plural_reach.proofs.set.TaskSet.meets.Goals as goal

-- The answer at `then-shares` meets the contract.
pub returns-then-shares : goal.returns-then-shares
returns-then-shares c = (
  (λ h. number_low c.args.self.now c.args.other.now (c.shares.ensures.some h)),
  (λ h. c.if-shares.true),
)

-- The answer at `else-shares` meets the contract.
pub returns-else-shares : goal.returns-else-shares
returns-else-shares c = (
  (λ h. number_high c.args.self.now c.args.other.now (c.shares-else-shares.ensures.some h)),
  (λ h. ⊎_elim (λ b. absurd (let l = c.shares.ensures.all _ b.0 b.1 in let n = c.if-shares.false in cc)) (λ b. c.shares-else-shares.ensures.all _ b.0 b.1) (number_bits c.args.self.now c.args.other.now h.0 h.1 h.2)),
)
