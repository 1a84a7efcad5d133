use Rattle.plural_rule.proofs.SettlingLaws.{loads_state}
use Rattle.plural_rule.proofs.laws.load_state.Goals as goal

-- The answer meets the contract.
pub returns : goal.returns
returns c = loads_state
