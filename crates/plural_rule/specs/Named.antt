-- What the names of this crate say of the serial run of the program. They are closed, so that proofs take the run as a
-- world and a graph and never as a fold over tasks; here they are opened. (This project's own.)
use Rattle.std.specs.Prelude.{ℕ, ◌≡◌, ◌<◌, map, Some}
use Rattle.plural_regions.specs.Rights.{may_read, may_write}
use Rattle.plural_map.specs.Decisions.{decided, outcome_at}
use Rattle.plural_map.specs.Limits.{IsMap}
use Rattle.plural_serial.specs.Program.{task_at, life_of}
use Rattle.plural_serial.specs.Serial.{serial_of}
use Rattle.plural_serial.specs.Answer as answer
use Rattle.plural_serial.specs.Instances.{insts as instances_of}
use Rattle.plural_order.specs.World.{run, start_at}
use Rattle.plural_order.specs.TaskGraph.{decision_by}
use Rattle.plural_order.specs.ProgramGraph.{bits_of_end, edge_bits_in}
use Rattle.plural_rule.specs.Opening.{Opening, world_in, graph_in, stores_of, record_of, ends_of, edges_of, outcome_of}
use Rattle.plural_rule.specs.Opening.{task_count}

-- Of the serial run of an opening's program over its image: the instances that run, the last memory, each task's
-- outcome and what is decided of it, the records in order; of an instance what its regions let it read and write, its
-- stores over the memory at its start, and the bits of its end by its record; the bits of a dependency.
pub record IsNamed (o : Opening) : Type 0 where
  pub ran : (world_in o).ran ≡ instances_of (serial_of o.program o.image).ran
  pub memory : run (world_in o) (world_in o).image (world_in o).ran ≡ (serial_of o.program o.image).memory
  pub outcomes : (t : ℕ) → t < task_count o.program
      → outcome_at (serial_of o.program o.image).outcomes t ≡ Some (outcome_of o t)
  pub decisions : (t : ℕ) → t < task_count o.program
      → decided (task_at o.program t) (serial_of o.program o.image).outcomes ≡ decision_by (graph_in o) t
  pub records : map (answer.record_of o.program) (serial_of o.program o.image).ran
      ≡ map (λ i. record_of o i.0 i.1) (world_in o).ran
  pub reads : (t k a : ℕ) → (world_in o).reads (t, k) a ≡ may_read (task_at o.program t).regions k a
  pub writes : (t k a : ℕ) → (world_in o).writes (t, k) a ≡ may_write (task_at o.program t).regions k a
  pub stores : (t k : ℕ) → stores_of o t k ≡ (life_of o.program t k (start_at (world_in o) (t, k))).stores
  pub ends : (t k : ℕ) → ends_of o t k ≡ bits_of_end (record_of o t k).«end»
  pub edges : (t u : ℕ) → edges_of o t u ≡ edge_bits_in o.program o.image t u

-- So it is of each program within its limits.
abbrev pub SerialRunNamed : Type 0
SerialRunNamed = (o : Opening) → IsMap o.program.map → IsNamed o
