use Rattle.plural_rule.proofs.SettlingLaws.{marks_end}
use Rattle.plural_rule.proofs.laws.mark_end.Goals as goal

-- The answer meets the contract.
pub returns : goal.returns
returns c = marks_end
