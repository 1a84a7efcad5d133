-- The serial run of a program as a world.
use Rattle.std.specs.Prelude.{ℕ, ◌≡◌, List, length}
use Rattle.plural_regions.specs.Rights.{may_read, may_write}
use Rattle.plural_core.specs.Turn.{Step}
use Rattle.plural_core.specs.declared.end.End.{End}
use Rattle.plural_map.specs.Limits.{IsMap}
use Rattle.plural_reach.specs.Chains.{comes_before}
use Rattle.plural_crew.specs.Clashes.{IsAccepted}
use Rattle.plural_serial.specs.Program.{ProgramValue, task_at, life_of}
use Rattle.plural_serial.specs.Serial.{ended, serial_of}
use Rattle.plural_serial.specs.Instances.{insts as instances_of}
use Rattle.plural_order.specs.World.{Life, World}

-- What a whole life tells.
abbrev pub lived : Step → Life End
lived s = record { over = ended s.state.over; instructions = s.state.count; loads = s.loads; stores = s.stores }

-- The world of a program over an opening memory: its serial run, what regions let instances write and read, what comes
-- before what by dependencies, and the lives of its instances.
abbrev pub world_of : ProgramValue → List ℕ → World End
world_of p m = record {
  words = p.map.words;
  image = m;
  ran = instances_of (serial_of p m).ran;
  writes = λ i a. may_write (task_at p i.0).regions i.1 a;
  reads = λ i a. may_read (task_at p i.0).regions i.1 a;
  before = comes_before p.map.tasks;
  life = λ i n. lived (life_of p i.0 i.1 n);
}

-- A program whose map is within all limits and has no clash, and an opening memory as long as its map says.
pub record IsOpening (p : ProgramValue) (m : List ℕ) : Type 0 where
  pub limits : IsMap p.map
  pub accepted : IsAccepted p.map.tasks
  pub image : length m ≡ p.map.words
