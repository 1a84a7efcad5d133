use Rattle.plural_rule.proofs.SettlingLaws.{loads_flags}
use Rattle.plural_rule.proofs.laws.load_flags.Goals as goal

-- The answer meets the contract.
pub returns : goal.returns
returns c = loads_flags
