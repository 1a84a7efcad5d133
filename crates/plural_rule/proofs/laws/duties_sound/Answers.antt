use Rattle.plural_rule.proofs.SettlingLaws.{duties_sound}
use Rattle.plural_rule.proofs.laws.duties_sound.Goals as goal

-- The answer meets the contract.
pub returns : goal.returns
returns c = duties_sound
