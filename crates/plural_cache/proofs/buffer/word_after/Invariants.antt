use Rattle.std.proofs.Common.{◌≡◌, ◌<◌, List, ℕ, length, take}
use Rattle.std.specs.Prelude.{slice_index}
use Rattle.plural_base.specs.Stores.{sets}
use Rattle.plural_cache.proofs.buffer.word_after.Given as goal

-- It is the word as the first pairs leave it.
abbrev pub invariant-loop-i : goal.invariant-loop-i
invariant-loop-i l = (m : List ℕ) → l.a < length m → slice_index m l.a ≡ l.below
    → l.word ≡ slice_index (sets m (take l.i l.pairs)) l.a
