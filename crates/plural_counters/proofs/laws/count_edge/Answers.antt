use Rattle.plural_counters.proofs.Edges.{count_edge}
use Rattle.plural_counters.proofs.laws.count_edge.Goals as goal

-- The answer meets the contract.
pub returns : goal.returns
returns c = count_edge
