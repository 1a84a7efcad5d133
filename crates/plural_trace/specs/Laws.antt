-- What a serial run leaves.
use Rattle.std.specs.Prelude.{◌≡◌, ℕ, ◌<◌, ◌≤◌, ◌↔◌, List, length}
use Rattle.std.specs.List.{All}
use Rattle.plural_map.specs.Limits.{IsMap}
use Rattle.plural_serial.specs.declared.record_.Record.{Record}
use Rattle.plural_serial.specs.Program.{ProgramValue, IsProgram}
use Rattle.plural_serial.specs.Answer.{AnswerValue, IsSerial}
use Rattle.plural_trace.specs.SerialLog.{serial_log}
use Rattle.plural_trace.specs.Logs.{LogValue, IsLog}
use Rattle.plural_trace.specs.declared.verdict.Verdict.{Verdict}
use Rattle.plural_trace.specs.declared.verdict.Verdict.TheVariants.{Yes}
use Rattle.plural_trace.specs.Verdicts.{Expected, expected_of, IsLegal, NoneFails, IsVerdict}

-- A serial run over a map has at most 65,536 records, each of a task of the map, and one outcome for each task.
abbrev pub SerialFits : Type 0
SerialFits = (p : ProgramValue) (m : List ℕ) (a : AnswerValue) → IsMap p.map → IsSerial p m a
    → (length a.records ≤ 65536) × (length a.outcomes ≡ length p.map.tasks)
    × All (λ (r : Record). r.t < length p.map.tasks) a.records

-- A log with an outcome for each task, and a memory of the right length, are legal exactly if no rule fails at any
-- place.
abbrev pub LegalExactly : Type 0
LegalExactly = (x : Expected) (log : LogValue) (last : List ℕ) → length log.outcomes ≡ length x.outcomes
    → length last ≡ length x.memory → IsLegal x log last ↔ NoneFails x log last

-- A verdict is yes exactly if the log is legal.
abbrev pub YesExactly : Type 0
YesExactly = (x : Expected) (log : LogValue) (last : List ℕ) (v : Verdict) → IsVerdict x log last v
    → (v ≡ Yes) ↔ IsLegal x log last

-- The log of a serial run of a program over a map is legal, with its last memory.
abbrev pub SerialIsLegal : Type 0
SerialIsLegal = (p : ProgramValue) (m : List ℕ) (a : AnswerValue) → IsMap p.map → IsSerial p m a
    → IsLegal (expected_of p m) (serial_log a) a.image

-- It is a log of the map, as can be printed.
abbrev pub SerialIsLog : Type 0
SerialIsLog = (p : ProgramValue) (m : List ℕ) (a : AnswerValue) → IsProgram p → IsMap p.map → IsSerial p m a
    → IsLog p.map (serial_log a)
