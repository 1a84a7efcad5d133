-- What the words are opened with, and what its serial run is. (This project's own.)
use Rattle.std.specs.Prelude.{ℕ, ◌≡◌, ◌<◌, ◌≤◌, true, List, length}
use Rattle.plural_map.specs.declared.outcome.Outcome.{Outcome}
use Rattle.plural_core.specs.declared.end.End.{End}
use Rattle.plural_serial.specs.declared.record_.Record.{Record}
use Rattle.plural_serial.specs.Program.{ProgramValue, task_at}
use Rattle.plural_serial.specs.Instances.{is_in}
use Rattle.plural_reach.specs.Laws.{rank_of}
use Rattle.plural_order.specs.World.{World, IsWorld, start_at}
use Rattle.plural_order.specs.Sums.{sum_below}
use Rattle.plural_order.specs.ProgramWorld.{world_of}
use Rattle.plural_order.specs.ProgramGraph.{successors_of, end_bits_in, edge_bits_in, outcome_in}
use Rattle.plural_order.specs.ProgramLaws.{record_in}
use Rattle.plural_order.specs.TaskGraph.{TaskGraph}

-- A program, an opening memory and the number of cores.
pub record Opening : Type 0 where
  pub program : ProgramValue
  pub image : List ℕ
  pub cores : ℕ

-- How many tasks there are.
abbrev pub task_count : ProgramValue → ℕ
task_count p = length p.map.tasks

-- How many instances task t has.
abbrev pub quota_of : ProgramValue → (t : ℕ) → ℕ
quota_of p t = (task_at p t).quota

-- Task t has an instance k.
abbrev pub IsInstance : ProgramValue → (t k : ℕ) → Type 0
IsInstance p t k = (t < task_count p) × (k < quota_of p t)

-- The serial run as a world.
unfoldable pub world_in : Opening → World End
world_in o = world_of o.program o.image

-- Instance (t, k) runs in it; it may write or read word a of the memory; task t comes before task u.
abbrev pub Runs : Opening → (t k : ℕ) → Type 0
Runs o t k = is_in (t, k) (world_in o).ran ≡ true

abbrev pub MayWrite : Opening → (t k a : ℕ) → Type 0
MayWrite o t k a = (world_in o).writes (t, k) a ≡ true

abbrev pub MayRead : Opening → (t k a : ℕ) → Type 0
MayRead o t k a = (world_in o).reads (t, k) a ≡ true

abbrev pub Before : Opening → (t u : ℕ) → Type 0
Before o t u = (world_in o).before t u ≡ true

-- The stores of instance (t, k) in the serial run, in order.
abbrev pub stores_of : Opening → (t k : ℕ) → List (ℕ × ℕ)
stores_of o t k = ((world_in o).life (t, k) (start_at (world_in o) (t, k))).stores

-- The record of instance (t, k) in the serial run.
unfoldable pub record_of : Opening → (t k : ℕ) → Record
record_of o t k = record_in o.program o.image (t, k)

-- The bits of the end of instance (t, k), those of the dependency of task u on task t, and the outcome of task t.
unfoldable pub ends_of : Opening → (t k : ℕ) → ℕ
ends_of o t k = end_bits_in o.program o.image t k

unfoldable pub edges_of : Opening → (t u : ℕ) → ℕ
edges_of o t u = edge_bits_in o.program o.image t u

unfoldable pub outcome_of : Opening → (t : ℕ) → Outcome
outcome_of o t = outcome_in o.program o.image t

-- The tasks and their serial run as a graph.
abbrev pub graph_in : Opening → TaskGraph
graph_in o = record {
  tasks = task_count o.program;
  quota = quota_of o.program;
  successors = successors_of o.program.map.tasks;
  deps = λ u. length (task_at o.program u).deps;
  some = λ u. (task_at o.program u).some;
  ran = λ t k. is_in (t, k) (world_in o).ran;
  before = (world_in o).before;
  ends = ends_of o;
  edges = edges_of o;
  outcome = outcome_of o;
  rank = rank_of o.program.map.tasks;
}

-- What the rule asks of an opening: its limits (a program has them), and that its serial run is a world over the words
-- of its memory, in which instances of tasks alone run and read within the memory.
pub record HasSerialRun (o : Opening) : Type 0 where
  pub few_words : o.program.map.words ≤ 1048576
  pub few_tasks : task_count o.program ≤ 256
  pub few_instances : sum_below (quota_of o.program) (task_count o.program) ≤ 65536
  pub world : IsWorld (world_in o)
  pub image : (world_in o).image ≡ o.image
  pub words : (world_in o).words ≡ o.program.map.words
  pub instances : (t k : ℕ) → Runs o t k → IsInstance o.program t k
  pub inside : (t k a : ℕ) → Runs o t k → MayRead o t k a → a < o.program.map.words
