use Rattle.plural_order.proofs.ProgramLaws.{records_of_program}
use Rattle.plural_order.proofs.laws.records_of_program.Goals as goal

-- The answer meets the contract.
pub returns : goal.returns
returns c = records_of_program
