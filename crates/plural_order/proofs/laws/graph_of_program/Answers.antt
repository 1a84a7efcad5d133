use Rattle.plural_order.proofs.ProgramGraphs.{graph_of_program}
use Rattle.plural_order.proofs.laws.graph_of_program.Goals as goal

-- The answer meets the contract.
pub returns : goal.returns
returns c = graph_of_program
