use Rattle.plural_rule.proofs.InstanceLaws.{notes_a_field}
use Rattle.plural_rule.proofs.laws.note_field.Goals as goal

-- The answer meets the contract.
pub returns : goal.returns
returns c = notes_a_field
