-- How many instances a serial run has. (This project's own.)
use Rattle.std.specs.Prelude.{ℕ, ◌≤◌, List, length}
use Rattle.plural_map.specs.Limits.{IsMap}
use Rattle.plural_serial.specs.Program.{ProgramValue}
use Rattle.plural_serial.specs.Serial.{serial_of}

-- For each program whose map is within its limits, and each memory: at most 65,536 instances run.
abbrev pub FewRecords : Type 0
FewRecords = (p : ProgramValue) (m : List ℕ) → IsMap p.map → length (serial_of p m).ran ≤ 65536
