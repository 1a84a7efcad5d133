-- A cache as contracts see it. (This project's own; no section of a standard.)
use Rattle.std.specs.Prelude.{ℕ, ◌≡◌, ◌-◌, ◌/◌, ◌%◌, ◌<◌, ◌≤◌, Bool, true, false, List, [], ◌∷◌, length, take, slice_index, slice_index_or, IfSome, replicate}
use Rattle.plural_base.specs.CacheShape.{is_set_count}
use Rattle.plural_base.specs.Told.{Told}
use Rattle.plural_cache.specs.declared.set.Line.{Line}
use Rattle.plural_cache.specs.Miss.{is_in, present_after, misses_of}
use Rattle.plural_cache.specs.Lines.{keys, look, brought}

-- A cache: its shape, the lines present in each set, and its counts since it was emptied.
pub record CacheValue : Type 0 where
  pub sets : ℕ
  pub ways : ℕ
  pub held : List (List Line)
  pub loads : ℕ
  pub misses : ℕ
  pub stores : ℕ

-- The lines present in set s.
abbrev pub set_of : CacheValue → ℕ → List Line
set_of c s = slice_index_or c.held s []

-- Whether the line of word a is present.
abbrev pub is_present : CacheValue → ℕ → Bool
is_present c a = is_in (a / 8) (keys (set_of c (a / 8 % c.sets)))

-- The cache stands for the load accesses h: each set has present what is present after h, and the counts are the
-- length of h and its misses.
pub record StandsFor (c : CacheValue) (h : List ℕ) : Type 0 where
  pub present : (s : ℕ) → s < c.sets → keys (set_of c s) ≡ present_after c.sets c.ways h s
  pub loads : c.loads ≡ length h
  pub misses : c.misses ≡ misses_of c.sets c.ways h

-- A line has word a of these words.
abbrev pub AgreesAt : ℕ → List ℕ → List ℕ → Type 0
AgreesAt a words line = slice_index line (a % 8) ≡ slice_index words a

-- The cache agrees with a memory: each word that is present and lawful is the memory's.
pub record Agrees (c : CacheValue) (told : Told) : Type 0 where
  pub same : (a : ℕ) → told.lawful a ≡ true → IfSome (look (a / 8) (set_of c (a / 8 % c.sets))) (AgreesAt a told.words)

-- The shapes of a cache: a power of two from 1 to 64 sets, of 1 to 4 ways.
pub record IsShape (sets ways : ℕ) : Type 0 where
  pub power : is_set_count sets ≡ true
  pub some_ways : 1 ≤ ways
  pub few_ways : ways ≤ 4

-- What holds of every cache.
pub record IsCache (c : CacheValue) : Type 0 where
  pub shape : IsShape c.sets c.ways
  pub some_sets : 0 < c.sets
  pub table : length c.held ≡ c.sets
  pub misses : c.misses ≤ c.loads
  pub loads : c.loads ≤ 100000000
  pub stores : c.stores ≤ 100000000

-- The lines of a set after a load access to line x: x is brought to the front, or put there in place of the oldest
-- if the set is full.
abbrev pub loaded : Bool → (ways x : ℕ) → List ℕ → List Line → List Line
loaded true ways x words ls = brought x ls
loaded false ways x words ls = record { line = x; words = words } ∷ take (ways - 1) ls

-- A cache without lines, its counts 0.
abbrev pub fresh : (sets ways : ℕ) → CacheValue
fresh sets ways = record { sets = sets; ways = ways; held = replicate sets []; loads = 0; misses = 0; stores = 0 }

-- An empty cache stands for the empty list and agrees with every memory.
pub record IsFresh (c : CacheValue) (sets ways : ℕ) : Type 0 where
  pub is : c ≡ fresh sets ways
  pub stands : StandsFor c []
  pub agrees : (told : Told) → Agrees c told
