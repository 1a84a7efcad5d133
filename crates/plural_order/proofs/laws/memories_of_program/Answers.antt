use Rattle.plural_order.proofs.ProgramLaws.{memories_of_program}
use Rattle.plural_order.proofs.laws.memories_of_program.Goals as goal

-- The answer meets the contract.
pub returns : goal.returns
returns c = memories_of_program
