use Rattle.plural_order.proofs.ProgramLaws.{any_order_of_program}
use Rattle.plural_order.proofs.laws.any_order_of_program.Goals as goal

-- The answer meets the contract.
pub returns : goal.returns
returns c = any_order_of_program
