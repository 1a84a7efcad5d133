use Rattle.std.proofs.Common.{arith}
use Rattle.plural_finished.proofs.Entered.{task_entered}
use Rattle.plural_finished.proofs.entering.enter_task.Goals as goal

-- After the last number the task is entered.
pub returns-clause-entered : goal.returns-clause-entered
returns-clause-entered c = task_entered _ _ c.loop-k.k _ (omega (arith, c.requires.quota, c.loop-k-test.false, c.loop-k.auto.k-end)) c.loop-k.invariant.0
