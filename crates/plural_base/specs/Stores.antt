-- The memory that stores make. (This project's own.)
use Rattle.std.specs.Prelude.{ℕ, List, [], ◌∷◌, slice_set}

-- A memory with these stores set in order.
abbrev pub sets : List ℕ → List (ℕ × ℕ) → List ℕ
sets m [] = m
sets m (x ∷ xs) = sets (slice_set m x.0 x.1) xs
