use Rattle.std.proofs.Common.{◌∙◌, ap}
use Rattle.plural_serial.specs.Serial.{serial_of}
use Rattle.plural_finished.specs.Finishing.{FinishedValue}
use Rattle.plural_finished.proofs.Results.{finished_is_legal}
use Rattle.plural_finished.proofs.finished.Finished.image.Goals as goal

-- The image is the last memory of the serial run.
pub returns-clause-serial : goal.returns-clause-serial
returns-clause-serial c =
    c.as_slice.ensures.value ∙ ((finished_is_legal _ c.self.invariant).words ∙ ap (λ (f : FinishedValue). (serial_of f.closed.opening.program f.closed.opening.image).memory) c.self.view_is)
