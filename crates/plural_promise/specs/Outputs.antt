-- The output of a run, read again.
use Rattle.std.specs.Prelude.{ℕ, ◌≡◌, ◌≤◌, List}
use Rattle.plural_bytes.specs.Lines.{content_lines}
use Rattle.plural_serial.specs.Answer.{AnswerValue, IsSerial}
use Rattle.plural_trace.specs.SerialLog.{serial_log}
use Rattle.plural_trace.specs.Verdicts.{expected_of, IsLegal}
use Rattle.plural_bundle.specs.Value.{BundleValue, bundle_of}
use Rattle.plural_output.specs.Value.{OutputValue, output_of}
use Rattle.plural_output.specs.Answer.{IsOutput}
use Rattle.plural_cli.specs.declared.command.Order.{Order}
use Rattle.plural_cli.specs.declared.command.Request.TheVariants as request
use Rattle.plural_cli.specs.Output.{IsAnswer}

-- The bundle that the lines of an input spell.
abbrev pub bundle_in : List ℕ → BundleValue
bundle_in bytes = bundle_of (content_lines bytes)

-- The lines of the text are an output of a run of the bundle, and spell this log and this last memory.
pub record IsReadAs (b : BundleValue) (text : List ℕ) (end : ℕ) (o : OutputValue) : Type 0 where
  pub output : IsOutput b.program.map.tasks b.program.map.words (content_lines text) end
  pub value : output_of b.program.map.tasks b.program.map.words (content_lines text) ≡ o

-- They spell those of its serial run.
pub record IsReadAgain (b : BundleValue) (text : List ℕ) (end : ℕ) : Type 0 where
  pub run : AnswerValue
  pub serial : IsSerial b.program b.image run
  pub read : IsReadAs b text end (record { log = serial_log run; image = run.image })

-- They spell a log of so many cores and a last memory, which are legal for the bundle.
pub record IsReadLegal (b : BundleValue) (cores : ℕ) (text : List ℕ) (end : ℕ) : Type 0 where
  pub output : OutputValue
  pub read : IsReadAs b text end output
  pub cores_are : output.log.cores ≡ cores
  pub legal : IsLegal (expected_of b.program b.image) output.log output.image

-- What `serial` writes of a bundle, with status 0 or 1, is read again.
abbrev pub SerialIsRead : Type 0
SerialIsRead = (bytes : List ℕ) (status : ℕ) (text : List ℕ) (end : ℕ) → IsAnswer request.Serial bytes status text
    → status ≤ 1 → IsReadAgain (bundle_in bytes) text end

-- So is what `run` writes of a bundle on so many cores, in any order, with status 0 or 1.
abbrev pub RunIsRead : Type 0
RunIsRead = (bytes : List ℕ) (cores : ℕ) (order : Order) (status : ℕ) (text : List ℕ) (end : ℕ)
    → IsAnswer (request.Run cores order) bytes status text → status ≤ 1
    → IsReadLegal (bundle_in bytes) cores text end
