use Rattle.plural_counters.proofs.Edges.{mark_edge}
use Rattle.plural_counters.proofs.laws.mark_edge.Goals as goal

-- The answer meets the contract.
pub returns : goal.returns
returns c = mark_edge
