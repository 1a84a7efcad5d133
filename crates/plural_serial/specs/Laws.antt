-- What holds of the serial run. (This project's own.)
use Rattle.std.specs.Prelude.{ℕ, ◌≡◌, ◌<◌, ◌≤◌, ◌↔◌, true, List, length, Some}
use Rattle.std.specs.List.{All}
use Rattle.plural_base.specs.Stores.{sets}
use Rattle.plural_regions.specs.Rights.{may_write}
use Rattle.plural_core.specs.Ends.{IsEnd}
use Rattle.plural_map.specs.declared.outcome.Decision.TheVariants as decision
use Rattle.plural_map.specs.Limits.{IsMap}
use Rattle.plural_serial.specs.Program.{ProgramValue, IsProgram, task_at, life_of}
use Rattle.plural_serial.specs.Serial.{Started, ended, serial_of}
use Rattle.plural_serial.specs.Instances.{is_in, insts}
use Rattle.plural_serial.specs.Stretches.{Chain, decision_of, numbers_along, IsDecided}

-- The instances ran one after another from the opening image to the last memory, and each started over as many words as
-- the image has.
pub record IsChained (p : ProgramValue) (m : List ℕ) : Type 0 where
  pub chain : Chain p m (serial_of p m).ran (serial_of p m).memory
  pub starts : All (λ (s : Started). length s.start ≡ length m) (serial_of p m).ran
  pub last : length (serial_of p m).memory ≡ length m

-- So it is of every program and every opening image.
abbrev pub SerialChained : Type 0
SerialChained = (p : ProgramValue) (m : List ℕ) → IsChained p m

-- The instances that ran are, in this order: along the map's order, of each task that the outcomes decide to run, all
-- of its instances by rising number.
abbrev pub SerialInstances : Type 0
SerialInstances = (p : ProgramValue) (m : List ℕ) → IsMap p.map
    → insts (serial_of p m).ran ≡ numbers_along p m p.map.order

-- So an instance ran exactly if it is one of a task of the map that the outcomes decide to run.
abbrev pub WhoRan : Type 0
WhoRan = (p : ProgramValue) (m : List ℕ) (t k : ℕ) → IsMap p.map
    → (is_in (t, k) (insts (serial_of p m).ran) ≡ true)
    ↔ ((t < length p.map.tasks) × (decision_of p m t ≡ decision.Run) × (k < (task_at p t).quota))

-- The serial run has one outcome for each task, and each task has its place and its outcome by the decision over all
-- outcomes.
pub record IsSettled (p : ProgramValue) (m : List ℕ) : Type 0 where
  pub one_each : length (serial_of p m).outcomes ≡ length p.map.tasks
  pub decided : (t : ℕ) → t < length p.map.tasks → IsDecided p m t

-- So it is if the map is within its limits.
abbrev pub SerialSettled : Type 0
SerialSettled = (p : ProgramValue) (m : List ℕ) → IsMap p.map → IsSettled p m

-- The life of instance k of task t over the memory m: its end, which is a code, a budget used up, or one of the nine
-- traps; its instructions, loads and stores, which are within the budget; its stores, each to a word of the memory that
-- the instance may write; its memory, which is m with its stores set in order.
pub record IsWholeLife (p : ProgramValue) (t k : ℕ) (m : List ℕ) : Type 0 where
  pub over : (life_of p t k m).state.over ≡ Some (ended (life_of p t k m).state.over)
  pub ends : IsEnd (ended (life_of p t k m).state.over)
  pub instructions : (life_of p t k m).state.count ≤ (task_at p t).budget
  pub loads : length (life_of p t k m).loads ≤ (task_at p t).budget
  pub stores : length (life_of p t k m).stores ≤ (task_at p t).budget
  pub within : All (λ s. (may_write (task_at p t).regions k s.0 ≡ true) × (s.0 < p.map.words)) (life_of p t k m).stores
  pub memory : (life_of p t k m).memory ≡ sets m (life_of p t k m).stores

-- So it is of each instance of a program.
abbrev pub WholeLives : Type 0
WholeLives = (p : ProgramValue) (t k : ℕ) (m : List ℕ) → IsProgram p → IsMap p.map
    → t < length p.map.tasks → k < (task_at p t).quota → IsWholeLife p t k m
