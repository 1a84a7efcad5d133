use Rattle.plural_rule.proofs.ProgramRuns.{serial_run_named}
use Rattle.plural_rule.proofs.laws.serial_run_named.Goals as goal

-- The answer meets the contract.
pub returns : goal.returns
returns c = serial_run_named
