-- A cache over a bus, and a store buffer between them, as a hart goes through them. (This project's own.)
use Rattle.std.specs.Prelude.{ℕ, ◌≡◌, ◌+◌, List, ◌++◌, length}
use Rattle.plural_base.specs.Told.{Told, Counted, told_after}
use Rattle.plural_cache.specs.Buffer.{told_through, counted_through, IsBufferOver, IsLate}
use Rattle.plural_cache.specs.Cache.{CacheValue, StandsFor}
use Rattle.plural_core.specs.Turn.{Step}
use Rattle.plural_serial.specs.Cached.{IsCacheOver, KeepsCounts}

-- A step's accesses went through a cache to a bus and nothing else: the bus holds the step's memory, its stores are
-- gone from those expected, the cache stands for its loads after the others and has counted its stores, the
-- differences of counts stay, and the two may be used on.
pub record HasPassed (step : Step) (c d : CacheValue) (told now : Told) (counts after : Counted) : Type 0 where
  pub stored : now ≡ told_after (length step.stores) step.memory told
  pub stands : (h : List ℕ) → StandsFor c h → StandsFor d (h ++ step.loads)
  pub written : d.stores ≡ c.stores + length step.stores
  pub kept : KeepsCounts c d counts after
  pub over : IsCacheOver d now after

-- A cache, the stores that wait in the buffer under it, and what the bus under that tells and has counted.
pub record Stack : Type 0 where
  pub cache : CacheValue
  pub pairs : List (ℕ × ℕ)
  pub told : Told
  pub counts : Counted

-- The stack of these four.
abbrev pub stack : CacheValue → List (ℕ × ℕ) → Told → Counted → Stack
stack cache pairs told counts = record { cache = cache; pairs = pairs; told = told; counts = counts }

-- They may be used together.
pub record IsStacked (x : Stack) : Type 0 where
  pub cache : IsCacheOver x.cache (told_through x.pairs x.told) (counted_through x.pairs x.counts)
  pub buffer : IsBufferOver x.pairs x.told
  pub late : IsLate x.pairs x.counts

-- A step's accesses went through the cache and the buffer, and the three may be used on.
pub record HasSunk (step : Step) (x y : Stack) : Type 0 where
  pub passed : HasPassed step x.cache y.cache (told_through x.pairs x.told) (told_through y.pairs y.told)
      (counted_through x.pairs x.counts) (counted_through y.pairs y.counts)
  pub buffer : IsBufferOver y.pairs y.told
  pub late : IsLate y.pairs y.counts
