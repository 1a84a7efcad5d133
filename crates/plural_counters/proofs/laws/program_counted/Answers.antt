use Rattle.plural_counters.proofs.Openings.{program_counted}
use Rattle.plural_counters.proofs.laws.program_counted.Goals as goal

-- The answer meets the contract.
pub returns : goal.returns
returns c = program_counted
