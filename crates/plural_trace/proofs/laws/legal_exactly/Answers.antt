use Rattle.plural_trace.proofs.Legality.{legal_exactly}
use Rattle.plural_trace.proofs.laws.legal_exactly.Goals as goal

-- The answer meets the contract.
pub returns : goal.returns
returns c = legal_exactly
