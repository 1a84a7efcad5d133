use Rattle.plural_trace.proofs.Legality.{yes_exactly}
use Rattle.plural_trace.proofs.laws.yes_exactly.Goals as goal

-- The answer meets the contract.
pub returns : goal.returns
returns c = yes_exactly
