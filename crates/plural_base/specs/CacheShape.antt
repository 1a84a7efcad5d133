-- The shapes of a cache that a map may ask for. (This project's own; no section of a standard.)
use Rattle.std.specs.Prelude.{ℕ, Bool, [], ◌∷◌, ◌==◌}
use Rattle.std.specs.List.{list_any}

-- A number of sets is a power of two from 1 to 64.
abbrev pub is_set_count : ℕ → Bool
is_set_count sets = list_any (λ n. n == sets) (1 ∷ 2 ∷ 4 ∷ 8 ∷ 16 ∷ 32 ∷ 64 ∷ [])
