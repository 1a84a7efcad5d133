use Rattle.std.proofs.Common.{arith}
use Rattle.std.proofs.lemmas.Nat.{and_le_l}
use Rattle.plural_reach.proofs.SetLemmas.{common_bit, bit_in_common, nonzero_from, nonzero_when}
use Rattle.plural_reach.proofs.set.shares.Goals as goal

-- The answer meets the clause `some`.
pub returns-clause-some : goal.returns-clause-some
returns-clause-some c = λ h. common_bit c.args.a c.args.b (nonzero_from _ h) (omega (arith, and_le_l c.args.a c.args.b))

-- The answer meets the clause `all`.
pub returns-clause-all : goal.returns-clause-all
returns-clause-all c = λ i p q. nonzero_when _ (bit_in_common c.args.a c.args.b i p q)
