-- What a core has of its own to run an instance, and how far it has come. (This project's own.)
use Rattle.std.specs.Prelude.{ℕ, ◌≡◌, ◌*◌, ◌<◌, ◌⊎◌, None, Some, List, [], ◌∷◌, ◌+◌, length}
use Rattle.plural_counters.specs.declared.duty.Duty.TheVariants.{Flag}
use Rattle.plural_cache.specs.Buffer.{told_through, IsBufferOver, pair_limit}
use Rattle.plural_cache.specs.Cache.{CacheValue, StandsFor, Agrees}
use Rattle.plural_core.specs.Turn.{Core, Step}
use Rattle.plural_core.specs.Life.{life}
use Rattle.plural_core.specs.declared.end.End.{End}
use Rattle.plural_map.specs.Limits.{IsMap}
use Rattle.plural_serial.specs.Cached.{IsShaped}
use Rattle.plural_serial.specs.Program.{task_at, place_at, start_state, life_of}
use Rattle.plural_order.specs.World.{start_at}
use Rattle.plural_rule.specs.Opening.{Opening, IsInstance, Runs, world_in, record_of}
use Rattle.plural_rule.specs.declared.view.View.{View}
use Rattle.plural_rule.specs.declared.view.Stage.TheVariants.{Free, Begun}
use Rattle.plural_words.specs.Lent.{told_in}
use Rattle.plural_words.specs.Seen.{SeatSeen}

-- An engine: its cache, the stores that wait in its buffer with the oldest first, its hart, and the start ticket of
-- its instance.
pub record EngineSeen : Type 0 where
  pub cache : CacheValue
  pub pairs : List (ℕ × ℕ)
  pub core : Core
  pub start : ℕ

-- The first n turns of instance (t, k) in the serial run.
abbrev pub turns_of : Opening → (t k n : ℕ) → Step
turns_of o t k n = life n (place_at o.program t k) (start_state o.program t k) (start_at (world_in o) (t, k))

-- All its turns in the serial run.
abbrev pub all_turns_of : Opening → (t k : ℕ) → Step
all_turns_of o t k = life_of o.program t k (start_at (world_in o) (t, k))

-- The engine and the seat run instance (t, k), which has come this far: the hart is in its state; the cache stands for
-- its loads and has counted its stores, and what it has of the memory is what the instance has there; the seat has
-- read eight words for each miss; and its stores are those that the seat has made and those that wait, which come
-- next. The map is within its limits.
pub record IsRunning (o : Opening) (t k : ℕ) (sofar : Step) (e : EngineSeen) (s : SeatSeen) : Type 0 where
  pub made : ℕ
  pub stage : s.view.stage ≡ Begun t k e.start made (8 * e.cache.misses)
  pub is : IsInstance o.program t k
  pub runs : Runs o t k
  pub limits : IsMap o.program.map
  pub core : e.core ≡ record { state = sofar.state; k = k; budget = (task_at o.program t).budget }
  pub shape : IsShaped o.program.map e.cache
  pub stands : StandsFor e.cache sofar.loads
  pub counted : e.cache.stores ≡ length sofar.stores
  pub agrees : Agrees e.cache (told_through e.pairs (told_in o s.view.stage))
  pub memory : (told_through e.pairs (told_in o s.view.stage)).words ≡ sofar.memory
  pub long : length sofar.memory ≡ o.program.map.words
  pub count : made + length e.pairs ≡ length sofar.stores
  pub waits : IsBufferOver e.pairs (told_in o s.view.stage)

-- It has completed as many instructions as its hart has counted, and goes on. A store waits until the buffer is full.
pub record IsGoing (o : Opening) (t k : ℕ) (e : EngineSeen) (s : SeatSeen) : Type 0 where
  pub running : IsRunning o t k (turns_of o t k e.core.state.count) e s
  pub late : (length e.pairs ≡ pair_limit) ⊎ (running.made ≡ 0)
  pub over : e.core.state.over ≡ None
  pub room : e.core.state.count < (task_at o.program t).budget

-- It has made all its turns, and has ended so.
pub record IsOver (o : Opening) (t k : ℕ) (over : End) (e : EngineSeen) (s : SeatSeen) : Type 0 where
  pub running : IsRunning o t k (all_turns_of o t k) e s
  pub late : (length e.pairs ≡ pair_limit) ⊎ (running.made ≡ 0)
  pub ended : e.core.state.over ≡ Some over
  pub is_end : over ≡ (record_of o t k).«end»

-- One turn more of instance (t, k) was made than the hart had counted, and no more than one.
abbrev pub HasMadeTurn : Opening → (t k : ℕ) → (old new : EngineSeen) → Type 0
HasMadeTurn o t k e f = f.core.state ≡ (turns_of o t k (e.core.state.count + 1)).state

-- It has made all its turns and ended so, and no store waits any more.
pub record IsDrained (o : Opening) (t k : ℕ) (over : End) (e : EngineSeen) (s : SeatSeen) : Type 0 where
  pub running : IsRunning o t k (all_turns_of o t k) e s
  pub drained : e.pairs ≡ []
  pub ended : e.core.state.over ≡ Some over
  pub is_end : over ≡ (record_of o t k).«end»

-- The view once instance (t, k) is done: it is free, and owes that the instance's end be flagged.
abbrev pub done_with : (t k : ℕ) → View → View
done_with t k v = record v { stage = Free; owes = Flag t k ∷ v.owes }
