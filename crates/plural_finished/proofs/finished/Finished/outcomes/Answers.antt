use Rattle.std.proofs.Common.{List, map, Some, ◌∙◌, ap}
use Rattle.plural_map.specs.declared.outcome.Outcome.{Outcome}
use Rattle.plural_serial.specs.Serial.{serial_of}
use Rattle.plural_finished.specs.Finishing.{FinishedValue}
use Rattle.plural_finished.proofs.Results.{finished_is_legal}
use Rattle.plural_finished.proofs.finished.Finished.outcomes.Goals as goal

-- The outcomes are those of the serial run.
pub returns-clause-serial : goal.returns-clause-serial
returns-clause-serial c =
    ap (λ (os : List Outcome). map (λ o. Some o) os) c.as_slice.ensures.value ∙ ((finished_is_legal _ c.self.invariant).outcomes ∙ ap (λ (f : FinishedValue). (serial_of f.closed.opening.program f.closed.opening.image).outcomes) c.self.view_is)
