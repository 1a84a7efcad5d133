use Rattle.plural_order.proofs.ProgramLaws.{roots_run}
use Rattle.plural_order.proofs.laws.roots_run.Goals as goal

-- The answer meets the contract.
pub returns : goal.returns
returns c = roots_run
