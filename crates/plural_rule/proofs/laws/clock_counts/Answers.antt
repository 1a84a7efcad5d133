use Rattle.plural_rule.proofs.ClockCounts.{clock_counts}
use Rattle.plural_rule.proofs.laws.clock_counts.Goals as goal

-- The answer meets the contract.
pub returns : goal.returns
returns c = clock_counts
