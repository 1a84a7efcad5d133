use Rattle.std.proofs.Common.{arith}
use Rattle.plural_regions.proofs.region.Region.inside.Goals as goal

-- The answer at `in_default` meets the clause `inside`.
pub returns-in_default-clause-inside : goal.returns-in_default-clause-inside
returns-in_default-clause-inside c = λ k h. c.in-Some.ensures.outside.1 k (omega arith)

-- The answer at `in_default-2` meets the clause `inside`.
pub returns-in_default-2-clause-inside : goal.returns-in_default-2-clause-inside
returns-in_default-2-clause-inside c = λ k h. c.in_default.ensures.inside k
