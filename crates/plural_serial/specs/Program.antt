-- A program: a map of tasks, the code that they share, and the pc at which each task begins.
use Rattle.std.specs.Prelude.{ℕ, ◌≡◌, ◌%◌, ◌^◌, ◌<◌, ◌≤◌, List, length, slice_index}
use Rattle.std.specs.List.{All}
use Rattle.plural_map.specs.Value.{TaskValue, MapValue, task_of}
use Rattle.plural_core.specs.Turn.{Place, State, Step, start_of}
use Rattle.plural_core.specs.Life.{life}

-- A program as contracts see it: its map, its code, and the entry of each task in bytes.
pub record ProgramValue : Type 0 where
  pub map : MapValue
  pub code : List ℕ
  pub entries : List ℕ

-- Each of these is a word of 32 bits.
abbrev pub AreWords : List ℕ → Type 0
AreWords words = All (λ w. w < 2 ^ 32) words

-- Each task has one entry, a multiple of 4.
pub record HasEntries (p : ProgramValue) : Type 0 where
  pub one_each : length p.entries ≡ length p.map.tasks
  pub aligned : (t : ℕ) → t < length p.entries → slice_index p.entries t % 4 ≡ 0

-- What holds of every program: one entry a task, each a multiple of 4 below 2^32; at most 16,384 words of code, each
-- below 2^32.
pub record IsProgram (p : ProgramValue) : Type 0 where
  pub one_each : length p.entries ≡ length p.map.tasks
  pub aligned : (t : ℕ) → t < length p.entries → slice_index p.entries t % 4 ≡ 0
  pub entries : AreWords p.entries
  pub few_words : length p.code ≤ 16384
  pub words : AreWords p.code

-- A memory of a map: as many words as the map says, each below 2^32.
pub record IsMemory (m : MapValue) (words : List ℕ) : Type 0 where
  pub all : length words ≡ m.words
  pub each : AreWords words

-- The task of number t.
abbrev pub task_at : ProgramValue → ℕ → TaskValue
task_at p t = task_of p.map.tasks t

-- Where instance k of task t runs: the code, the task's regions, its number, its budget.
abbrev pub place_at : ProgramValue → (t k : ℕ) → Place
place_at p t k = record { code = p.code; regions = (task_at p t).regions; k = k; budget = (task_at p t).budget }

-- The state in which instance k of task t starts: pc at the entry, x10 = k, x11 = the quota, all else 0.
abbrev pub start_state : ProgramValue → (t k : ℕ) → State
start_state p t k = (start_of (slice_index p.entries t) k (task_at p t).quota (task_at p t).budget).state

-- The whole life of instance k of task t, alone over the memory m: at most as many turns as its budget.
abbrev pub life_of : ProgramValue → (t k : ℕ) → List ℕ → Step
life_of p t k m = life (task_at p t).budget (place_at p t k) (start_state p t k) m
