use Rattle.std.proofs.Common.{◌+◌, List, ◌∙◌, subst, sym, arith}
use Rattle.plural_map.specs.declared.outcome.Outcome.{Outcome}
use Rattle.plural_finished.specs.Finishing.{AreOutcomes}
use Rattle.plural_finished.proofs.Results.{more_outcomes}
use Rattle.plural_finished.proofs.filling.fill_outcomes.Goals as goal

-- The root had told the task.
pub outcome-requires : goal.outcome-requires
outcome-requires c = record { told = record { outcome = _; there = c.requires.run.told c.loop-t.t (omega (arith, c.requires.tasks, c.loop-t-test.true)) } }

-- One task more has its outcome.
pub loop-t-preserved : goal.loop-t-preserved
loop-t-preserved c = (
  subst (λ (os : List Outcome). AreOutcomes c.args.closed.now.opening (c.loop-t.t + 1) os) (sym c.push_reserved.ensures.items) (more_outcomes _ _ _ _ c.loop-t.invariant.0 c.outcome.ensures),
  omega (arith, c.push_reserved.ensures.len, c.loop-t.invariant.1),
  c.push_reserved.ensures.capacity ∙ c.loop-t.invariant.2,
)
