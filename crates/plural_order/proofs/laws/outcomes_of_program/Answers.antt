use Rattle.plural_order.proofs.ProgramLaws.{outcomes_of_program}
use Rattle.plural_order.proofs.laws.outcomes_of_program.Goals as goal

-- The answer meets the contract.
pub returns : goal.returns
returns c = outcomes_of_program
