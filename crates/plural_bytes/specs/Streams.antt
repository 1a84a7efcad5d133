-- What reads and writes do to the bytes that are left and held, if these are told.
use Rattle.std.specs.Prelude.{ℕ, ◌≡◌, ◌<◌, ◌≤◌, List, ◌++◌, length, take, Option, Result, MatchResult}
use Rattle.std.specs.Io.KnownBytes.{Consumes, Keeps, Appends, IsAtEnd}

-- A read that gave n bytes took the first n of those left. It gave none for a buffer with room only at the end. One
-- that failed took nothing.
abbrev pub Reads : {E : Type 0} → Option (List ℕ) → Option (List ℕ) → Result ℕ E → List ℕ → Type 0
Reads old new r into = MatchResult r (λ n. Consumes old new (take n into) × (n ≡ 0 → 0 < length into → IsAtEnd new))
    (λ _. Keeps old new)

-- n is the length of a prefix of the piece, and not 0 for a piece that isn't empty.
abbrev pub IsPart : ℕ → List ℕ → Type 0
IsPart n piece = (n ≤ length piece) × (0 < length piece → 0 < n)

-- The held bytes grew by a prefix of the piece.
abbrev pub AppendsPrefix : Option (List ℕ) → Option (List ℕ) → List ℕ → Type 0
AppendsPrefix old new piece = (prefix rest : List ℕ) × (piece ≡ prefix ++ rest) × Appends old new prefix

-- A write that took n bytes put the first n of the piece after what was held. One that failed put some prefix of it
-- there.
abbrev pub Writes : {E : Type 0} → Option (List ℕ) → Option (List ℕ) → Result ℕ E → List ℕ → Type 0
Writes old new r piece = MatchResult r (λ n. Appends old new (take n piece)) (λ _. AppendsPrefix old new piece)
