use Rattle.plural_order.proofs.ProgramWorlds.{world_of_program}
use Rattle.plural_order.proofs.laws.world_of_program.Goals as goal

-- The answer meets the contract.
pub returns : goal.returns
returns c = world_of_program
