use Rattle.plural_cores.proofs.Turns.{runs_out_now}
use Rattle.plural_cores.proofs.work.Work.run_out.Goals as goal

-- The instance has ended.
pub returns-in-Running : goal.returns-in-Running
returns-in-Running c = let e = c.run-end.ensures in runs_out_now _ _ _ _ _ _ _ c.in-Running.is c.requires.work e.of e.fixed e.over
