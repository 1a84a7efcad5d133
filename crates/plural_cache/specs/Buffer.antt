-- A store buffer before a bus: stores that are made but not yet written. (This project's own; no section of a
-- standard.) A buffer is the list of its pairs of address and word, the oldest first.
use Rattle.std.specs.Prelude.{ℕ, ◌≡◌, ◌⊎◌, ◌+◌, ◌%◌, ◌==◌, if◌then◌else◌, ◌<◌, List, [], ◌∷◌, length, slice_index}
use Rattle.std.specs.List.{All}
use Rattle.plural_base.specs.Stores.{sets}
use Rattle.plural_base.specs.Told.{Told, Counted, Foresees, told_after}
use Rattle.plural_cache.specs.Bus.{Writes}

-- How many pairs a buffer has at most.
abbrev pub pair_limit : ℕ
pair_limit = 16

-- How many of the pairs are of words whose address has this remainder by 64.
abbrev pub of_class : ℕ → List (ℕ × ℕ) → ℕ
of_class r [] = 0
of_class r (s ∷ rest) = (if s.0 % 64 == r then 1 else 0) + of_class r rest

-- These are the numbers of pairs by remainder.
pub record AreCounted (pairs : List (ℕ × ℕ)) (counts : List ℕ) : Type 0 where
  pub all : length counts ≡ 64
  pub each : (r : ℕ) → r < 64 → slice_index counts r ≡ of_class r pairs

-- What a bus tells once the pairs of the buffer are written to it.
abbrev pub told_through : List (ℕ × ℕ) → Told → Told
told_through pairs told = told_after (length pairs) (sets told.words pairs) told

-- What is counted once they are.
abbrev pub counted_through : List (ℕ × ℕ) → Counted → Counted
counted_through pairs counts = record { reads = counts.reads; writes = counts.writes + length pairs }

-- The pairs may be written to a bus that tells this: each is of a word that it has, and if stores are told, the pairs
-- are the first of them.
pub record IsBufferOver (pairs : List (ℕ × ℕ)) (told : Told) : Type 0 where
  pub within : All (λ s. s.0 < length told.words) pairs
  pub foreseen : Foresees told.expects pairs

-- A store reaches the bus only if the buffer is full: it has all its pairs, or the bus was not yet written to.
abbrev pub IsLate : List (ℕ × ℕ) → Counted → Type 0
IsLate pairs counts = (length pairs ≡ pair_limit) ⊎ (counts.writes ≡ 0)

-- The bus has written the oldest of these pairs, and nothing else of it changed; if there is none, nothing changed.
abbrev pub Drains : {B : Type 0} (told : B → Told) (counts : B → Counted) (keeps : B → B → Type 0)
    (is_sound : B → Type 0) → List (ℕ × ℕ) → (old new : B) → Type 0
Drains told counts keeps is_sound [] old new = new ≡ old
Drains told counts keeps is_sound (s ∷ rest) old new = Writes told counts keeps is_sound s.0 s.1 old new
