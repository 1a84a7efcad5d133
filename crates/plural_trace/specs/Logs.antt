-- A log as contracts see it.
use Rattle.std.specs.Prelude.{ℕ, ◌≡◌, ◌<◌, ◌≤◌, List, length}
use Rattle.std.specs.List.{All}
use Rattle.plural_core.specs.Ends.{IsEnd}
use Rattle.plural_map.specs.Value.{MapValue}
use Rattle.plural_map.specs.declared.outcome.Outcome.{Outcome}
use Rattle.plural_trace.specs.declared.entry.Entry.{Entry}

-- A log: the number of its cores, the outcome of each task by its number, the entries in the log's order.
pub record LogValue : Type 0 where
  pub cores : ℕ
  pub outcomes : List Outcome
  pub entries : List Entry

-- The entry is of one of so many tasks, its trap's cause is 1 to 9, and its numbers are below 2^32.
pub record IsEntry (tasks : ℕ) (e : Entry) : Type 0 where
  pub t : e.rec.t < tasks
  pub k : e.rec.k < 4294967296
  pub ended : IsEnd e.rec.«end»
  pub instructions : e.rec.instructions < 4294967296
  pub loads : e.rec.loads < 4294967296
  pub misses : e.rec.misses < 4294967296
  pub stores : e.rec.stores < 4294967296
  pub core : e.core < 4294967296
  pub start : e.start < 4294967296
  pub end_at : e.end_at < 4294967296

-- A log of a run of a map: 1 to 64 cores, one outcome for each task, at most 65,536 entries of its tasks.
pub record IsLog (m : MapValue) (log : LogValue) : Type 0 where
  pub cores_low : 1 ≤ log.cores
  pub cores_high : log.cores ≤ 64
  pub one_each : length log.outcomes ≡ length m.tasks
  pub few : length log.entries ≤ 65536
  pub entries : All (IsEntry (length m.tasks)) log.entries
