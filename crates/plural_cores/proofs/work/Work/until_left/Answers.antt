use Rattle.plural_cores.proofs.Tries.{later_both}
use Rattle.plural_cores.proofs.CoreTurns.{gone}
use Rattle.plural_cores.proofs.work.Work.until_left.Goals as goal

-- A turn that worked leaves fewer turns.
pub loop-preserved-in-Worked : goal.loop-preserved-in-Worked
loop-preserved-in-Worked g c = record {
  work = c.turn.ensures.work;
  later = later_both _ _ _ c.loop.invariant.later (later_both _ _ _ c.run_out.ensures.later c.turn.ensures.later);
}

-- So does one that found nothing.
pub loop-preserved : goal.loop-preserved
loop-preserved g c = record {
  work = c.turn.ensures.work;
  later = later_both _ _ _ c.loop.invariant.later (later_both _ _ _ c.run_out.ensures.later c.turn.ensures.later);
}

-- The core has left.
pub returns-in-Left : goal.returns-in-Left
returns-in-Left g c = gone _ _ _ _ _ _ (later_both _ _ _ c.loop.invariant.later c.run_out.ensures.later) c.in-Left.ensures
