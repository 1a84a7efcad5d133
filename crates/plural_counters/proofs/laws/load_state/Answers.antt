use Rattle.plural_counters.proofs.Decisions.{load_state}
use Rattle.plural_counters.proofs.laws.load_state.Goals as goal

-- The answer meets the contract.
pub returns : goal.returns
returns c = load_state
