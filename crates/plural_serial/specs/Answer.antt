-- What the serial machine answers, and that it is the serial run's.
use Rattle.std.specs.Prelude.{ℕ, ◌≡◌, List, ◌++◌, length, map, slice_set, Option, Some}
use Rattle.plural_map.specs.declared.outcome.Outcome.{Outcome}
use Rattle.plural_serial.specs.declared.record_.Record.{Record}
use Rattle.plural_cache.specs.Miss.{misses_of}
use Rattle.plural_serial.specs.Program.{ProgramValue, life_of}
use Rattle.plural_serial.specs.Serial.{Started, end_of, with_task, serial_of}

-- The record of an instance that ran: its end, its completed instructions, its accesses, and those of its load
-- accesses that miss by looking back over them from the first on.
abbrev pub record_of : ProgramValue → Started → Record
record_of p i =
    let life = life_of p i.t i.k i.start in
    record {
      t = i.t;
      k = i.k;
      «end» = end_of p i;
      instructions = life.state.count;
      loads = length life.loads;
      misses = misses_of p.map.sets p.map.ways life.loads;
      stores = length life.stores;
    }

-- An answer as contracts see it: a memory, the outcome of each task by its number, and the records of instances in
-- order.
pub record AnswerValue : Type 0 where
  pub image : List ℕ
  pub outcomes : List Outcome
  pub records : List Record

-- The answer is the serial run's: its last memory, each task's outcome, a record of each instance in the order in
-- which they ran.
pub record IsSerial (p : ProgramValue) (m : List ℕ) (a : AnswerValue) : Type 0 where
  pub image : a.image ≡ (serial_of p m).memory
  pub outcomes : map (λ o. Some o) a.outcomes ≡ (serial_of p m).outcomes
  pub records : a.records ≡ map (record_of p) (serial_of p m).ran

-- One task was decided and run: over the outcomes so far the memory became this one, the records gained those of the
-- instances that ran, and this is the task's outcome, whatever had run before.
pub record IsTaskRun (p : ProgramValue) (t : ℕ) (outcomes : List (Option Outcome)) (before after : List ℕ)
    (old new : List Record) (o : Outcome) : Type 0 where
  pub ran : List Started
  pub records : new ≡ old ++ map (record_of p) ran
  pub run : (earlier : List Started) → with_task p (record { memory = before; outcomes = outcomes; ran = earlier }) t
      ≡ record { memory = after; outcomes = slice_set outcomes t (Some o); ran = earlier ++ ran }
