-- A word of a bus stays one before it.
use Rattle.std.proofs.Common.{ℕ, ◌≡◌, ◌<◌, List, [], ◌∷◌, length, subst, sym, refl, ◌∙◌}
use Rattle.std.specs.Prelude.{slice_set}
use Rattle.std.proofs.Math.ListN.{length-set}
use Rattle.plural_base.specs.Stores.{sets}
use Rattle.plural_base.specs.Told.{Told}
use Rattle.plural_cache.specs.Buffer.{told_through}

-- Stores leave as many words as there were.
pub length_sets : (m : List ℕ) (pairs : List (ℕ × ℕ)) → length (sets m pairs) ≡ length m
length_sets m [] = refl
length_sets m (s ∷ rest) = length_sets (slice_set m s.0 s.1) rest ∙ length-set m s.0 s.1

-- A word of the bus is one of what is told before it.
pub within_through : (pairs : List (ℕ × ℕ)) (told : Told) (a : ℕ) → a < length told.words
    → a < length (told_through pairs told).words
within_through pairs told a h = subst (λ n. a < n) (sym (length_sets told.words pairs)) h
