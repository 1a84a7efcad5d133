use Rattle.plural_counters.proofs.TwoTasks.{each_duty_owed}
use Rattle.plural_counters.proofs.laws.each_duty_owed.Goals as goal

-- The answer meets the contract.
pub returns : goal.returns
returns c = each_duty_owed
