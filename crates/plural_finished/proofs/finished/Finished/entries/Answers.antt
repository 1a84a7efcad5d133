use Rattle.std.proofs.Common.{subst}
use Rattle.plural_finished.specs.Finishing.{FinishedValue}
use Rattle.plural_finished.specs.Laws.{HasLegalLog}
use Rattle.plural_finished.proofs.Results.{finished_is_legal}
use Rattle.plural_finished.proofs.finished.Finished.entries.Goals as goal

-- The log is legal with the image.
pub returns-clause-legal : goal.returns-clause-legal
returns-clause-legal c = subst (λ (f : FinishedValue). HasLegalLog f) c.self.view_is (finished_is_legal _ c.self.invariant)
