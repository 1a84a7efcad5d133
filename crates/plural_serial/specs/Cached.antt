-- What a cache over a bus keeps, and when the two may be used together. (This project's own.)
use Rattle.std.specs.Prelude.{ℕ, ◌≡◌, ◌+◌, ◌*◌, ◌%◌, ◌^◌, ◌<◌, ◌≤◌, List, length}
use Rattle.plural_map.specs.Value.{MapValue}
use Rattle.plural_base.specs.Told.{Told, Counted}
use Rattle.plural_cache.specs.Cache.{CacheValue, StandsFor, Agrees}
use Rattle.plural_serial.specs.Program.{ProgramValue}

-- The cache has the sets and ways of the map.
pub record IsShaped (m : MapValue) (c : CacheValue) : Type 0 where
  pub sets : c.sets ≡ m.sets
  pub ways : c.ways ≡ m.ways

-- Task t of a program may run over this cache and this memory: the task is one of the map, the cache has the
-- map's sets and ways, and the memory has the map's words, which are whole lines of eight.
pub record MayRun (p : ProgramValue) (t : ℕ) (c : CacheValue) (memory : List ℕ) : Type 0 where
  pub shape : IsShaped p.map c
  pub words : length memory ≡ p.map.words
  pub whole : p.map.words % 8 ≡ 0
  pub task : t < length p.map.tasks

-- From a cache c over a bus with these counts to a later one d over a bus with those: the bus's reads less eight times
-- the cache's misses stay, and so do the bus's writes less the cache's stores, and the sets and the ways.
pub record KeepsCounts (c d : CacheValue) (before after : Counted) : Type 0 where
  pub read : after.reads + 8 * c.misses ≡ before.reads + 8 * d.misses
  pub written : after.writes + c.stores ≡ before.writes + d.stores
  pub sets : d.sets ≡ c.sets
  pub ways : d.ways ≡ c.ways

-- A cache may be used over a bus with these words and counts: the lines are whole, the cache agrees with the bus and
-- stands for some list of load accesses, and the two differences that it keeps are from 0 to 2^60.
pub record IsCacheOver (c : CacheValue) (told : Told) (counts : Counted) : Type 0 where
  pub lines : length told.words % 8 ≡ 0
  pub agrees : Agrees c told
  pub stands : (h : List ℕ) × StandsFor c h
  pub fewest_reads : 8 * c.misses ≤ counts.reads
  pub most_reads : counts.reads ≤ 8 * c.misses + 2 ^ 60
  pub fewest_writes : c.stores ≤ counts.writes
  pub most_writes : counts.writes ≤ c.stores + 2 ^ 60
