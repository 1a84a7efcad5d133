-- The records that instances of a map can have. (This project's own.)
use Rattle.std.specs.Prelude.{ℕ, ◌<◌, ◌≤◌, List, length, map}
use Rattle.std.specs.List.{All}
use Rattle.plural_core.specs.Ends.{IsEnd}
use Rattle.plural_map.specs.Value.{MapValue, task_of}
use Rattle.plural_map.specs.Limits.{IsMap}
use Rattle.plural_serial.specs.declared.record_.Record.{Record}
use Rattle.plural_serial.specs.Program.{ProgramValue, IsProgram}
use Rattle.plural_serial.specs.Serial.{serial_of}
use Rattle.plural_serial.specs.Answer.{record_of}

-- The record is of an instance of the map, its end is one of the known kinds, and its counts are within the budget of
-- its task.
pub record IsRecord (m : MapValue) (r : Record) : Type 0 where
  pub t : r.t < length m.tasks
  pub k : r.k < (task_of m.tasks r.t).quota
  pub ended : IsEnd r.«end»
  pub instructions : r.instructions ≤ (task_of m.tasks r.t).budget
  pub loads : r.loads ≤ (task_of m.tasks r.t).budget
  pub misses : r.misses ≤ r.loads
  pub stores : r.stores ≤ (task_of m.tasks r.t).budget

-- So is each record of a serial run.
abbrev pub SerialRecords : Type 0
SerialRecords = (p : ProgramValue) (m : List ℕ) → IsProgram p → IsMap p.map
    → All (IsRecord p.map) (map (record_of p) (serial_of p m).ran)
