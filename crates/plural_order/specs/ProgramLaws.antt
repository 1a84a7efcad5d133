-- What holds of the serial run of a program as a world.
use Rattle.std.specs.Prelude.{ℕ, ◌≡◌, ◌⊎◌, true, false, List, ◌∷◌, ◌++◌, map}
use Rattle.plural_map.specs.Limits.{IsMap}
use Rattle.plural_reach.specs.Chains.{Before}
use Rattle.plural_reach.specs.Branches.{Exclusive}
use Rattle.plural_serial.specs.declared.record_.Record.{Record}
use Rattle.plural_serial.specs.Program.{ProgramValue, life_of}
use Rattle.plural_serial.specs.Serial.{Started, serial_of}
use Rattle.plural_serial.specs.Answer.{record_of}
use Rattle.plural_serial.specs.Instances.{Inst as Instance, is_in, instance_of}
use Rattle.plural_order.specs.World.{after, run, start_at, IsWorld}
use Rattle.plural_order.specs.ProgramWorld.{world_of, IsOpening}

-- The serial run of a program whose map has no clash is a world.
abbrev pub WorldOfProgram : Type 0
WorldOfProgram = (p : ProgramValue) (m : List ℕ) → IsOpening p m → IsWorld (world_of p m)

-- Of two exclusive tasks one has no instance that runs.
abbrev pub OneBranch : Type 0
OneBranch = (p : ProgramValue) (m : List ℕ) → IsMap p.map → (t u : ℕ) → Exclusive p.map.tasks t u
    → ((k : ℕ) → is_in (t, k) (world_of p m).ran ≡ false) ⊎ ((l : ℕ) → is_in (u, l) (world_of p m).ran ≡ false)

-- The memories of the serial run are those of its world: the last one, the one at each start, and the one after each
-- life.
pub record HasMemories (p : ProgramValue) (m : List ℕ) : Type 0 where
  pub final : (serial_of p m).memory ≡ run (world_of p m) m (world_of p m).ran
  pub starts : (past : List Started) (s : Started) (rest : List Started) → (serial_of p m).ran ≡ past ++ s ∷ rest
      → s.start ≡ start_at (world_of p m) (instance_of s)
  pub lives : (t k : ℕ) (n : List ℕ) → (life_of p t k n).memory ≡ after (world_of p m) (t, k) n

-- They are, for each program within its limits.
abbrev pub MemoriesOfProgram : Type 0
MemoriesOfProgram = (p : ProgramValue) (m : List ℕ) → IsMap p.map → HasMemories p m

-- The record of an instance, by its life from its start in the world.
abbrev pub record_in : ProgramValue → List ℕ → Instance → Record
record_in p m i = record_of p (record { t = i.0; k = i.1; start = start_at (world_of p m) i })

-- The records of the serial run are those of the instances that run, in order.
abbrev pub RecordsOfProgram : Type 0
RecordsOfProgram = (p : ProgramValue) (m : List ℕ) → IsMap p.map
    → map (record_of p) (serial_of p m).ran ≡ map (record_in p m) (world_of p m).ran

-- A list of the instances that run, each once, in which none stands after one of a task that its own task comes
-- before.
pub record IsOrderOfRun (p : ProgramValue) (m : List ℕ) (order : List Instance) : Type 0 where
  pub all : (i : Instance) → is_in i order ≡ is_in i (world_of p m).ran
  pub once : (past : List Instance) (i : Instance) (rest : List Instance) → order ≡ past ++ i ∷ rest
      → is_in i rest ≡ false
  pub kept : (past : List Instance) (i : Instance) (rest : List Instance) (j : Instance) → order ≡ past ++ i ∷ rest
      → is_in j rest ≡ true → Before p.map.tasks j.0 i.0 → ⊥

-- The instances, run in this order from the opening memory, leave the last memory of the serial run, and each has the
-- record that it has there.
pub record HasRecords (p : ProgramValue) (m : List ℕ) (order : List Instance) : Type 0 where
  pub memory : run (world_of p m) m order ≡ (serial_of p m).memory
  pub records : (xs : List Started) (s : Started) (ys : List Started) (past rest : List Instance)
      → (serial_of p m).ran ≡ xs ++ s ∷ ys → order ≡ past ++ instance_of s ∷ rest
      → record_of p (record { t = s.t; k = s.k; start = run (world_of p m) m past }) ≡ record_of p s

-- In a map without a clash the instances may run in any order that the dependencies allow.
abbrev pub AnyOrderOfProgram : Type 0
AnyOrderOfProgram = (p : ProgramValue) (m : List ℕ) → IsOpening p m → (order : List Instance)
    → IsOrderOfRun p m order → HasRecords p m order
