use Rattle.plural_rule.proofs.SettlingLaws.{arms_task}
use Rattle.plural_rule.proofs.laws.arm_task.Goals as goal

-- The answer meets the contract.
pub returns : goal.returns
returns c = arms_task
