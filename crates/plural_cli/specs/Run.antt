-- What `serial` and `run` answer to a bundle.
use Rattle.std.specs.Prelude.{ℕ, ◌≡◌, ◌⊎◌, List, Option, if◌then◌else◌}
use Rattle.std.specs.List.{list_any}
use Rattle.plural_map.specs.declared.outcome.Outcome.{Outcome}
use Rattle.plural_map.specs.Decisions.{is_failed}
use Rattle.plural_serial.specs.Program.{IsProgram, IsMemory}
use Rattle.plural_serial.specs.Serial.{serial_of}
use Rattle.plural_serial.specs.Answer.{AnswerValue, IsSerial}
use Rattle.plural_trace.specs.Logs.{LogValue, IsLog}
use Rattle.plural_trace.specs.SerialLog.{serial_log}
use Rattle.plural_trace.specs.Verdicts.{expected_of, IsLegal}
use Rattle.plural_output.specs.Text.{output_text}
use Rattle.plural_bundle.specs.Value.{BundleValue}
use Rattle.plural_crew.specs.Clashes.{IsAccepted}
use Rattle.plural_cli.specs.Lines.{ToBundle}
use Rattle.plural_cli.specs.Check.{IsClashing}

-- 1 if a task is failed, else 0.
abbrev pub status_of : List (Option Outcome) → ℕ
status_of outcomes = if list_any is_failed outcomes then 1 else 0

-- The answer of a serial run of a program. The status tells whether a task is failed. The text spells the log of the
-- run, on one core and with a pair of tickets for each instance in turn, and the last memory, which is one of the map.
pub record IsRan (b : BundleValue) (status : ℕ) (text : List ℕ) : Type 0 where
  pub program : IsProgram b.program
  pub run : AnswerValue
  pub serial : IsSerial b.program b.image run
  pub memory : IsMemory b.program.map run.image
  pub status_is : status ≡ status_of (serial_of b.program b.image).outcomes
  pub text_is : text ≡ output_text b.program.map (serial_log run) run.image

-- `serial` answers each bundle by its serial run.
abbrev pub IsSerialAnswer : (bytes : List ℕ) (status : ℕ) (text : List ℕ) → Type 0
IsSerialAnswer bytes status text = ToBundle IsRan bytes status text

-- The answer of a run of a program on so many cores. There is a log of this many cores, one of the map, and a last
-- memory, and the log is legal with it: so the outcomes and the memory are those of the serial run. The status tells
-- whether a task is failed. The text spells this log and this memory.
pub record IsRanOn (cores : ℕ) (b : BundleValue) (status : ℕ) (text : List ℕ) : Type 0 where
  pub log : LogValue
  pub last : List ℕ
  pub cores_are : log.cores ≡ cores
  pub legal : IsLegal (expected_of b.program b.image) log last
  pub logged : IsLog b.program.map log
  pub memory : IsMemory b.program.map last
  pub status_is : status ≡ status_of (serial_of b.program b.image).outcomes
  pub text_is : text ≡ output_text b.program.map log last

-- A map without a clash is run, and of another the first clash is told.
abbrev pub IsRunOf : (cores : ℕ) → BundleValue → (status : ℕ) (text : List ℕ) → Type 0
IsRunOf cores b status text =
    (IsAccepted b.program.map.tasks × IsRanOn cores b status text) ⊎ IsClashing b.program.map.tasks status text

-- `run` answers a bundle without a clash by a run on so many cores, and another by its first clash.
abbrev pub IsRunAnswer : (cores : ℕ) → (bytes : List ℕ) (status : ℕ) (text : List ℕ) → Type 0
IsRunAnswer cores bytes status text = ToBundle (IsRunOf cores) bytes status text
