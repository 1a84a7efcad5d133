-- What a memory tells of itself, as one instance has it. (This project's own; no section of a standard.)
use Rattle.std.specs.Prelude.{ℕ, ◌≡◌, List, ◌∷◌, ◌++◌, drop, slice_set, Bool, Option, Some, None}

-- Its words, which of them are lawful to read, and the stores to come, as pairs of address and word, if they are
-- told. Addresses count words from 0.
pub record Told : Type 0 where
  pub words : List ℕ
  pub lawful : ℕ → Bool
  pub expects : Option (List (ℕ × ℕ))

-- How many words were read from it, and how many were written to it.
pub record Counted : Type 0 where
  pub reads : ℕ
  pub writes : ℕ

-- If stores are told, this one is the first of them.
abbrev pub IsNext : Option (List (ℕ × ℕ)) → ℕ × ℕ → Type 0
IsNext None s = Unit {0}
IsNext (Some stores) s = (rest : List (ℕ × ℕ)) × (stores ≡ s ∷ rest)

-- If stores are told, they begin with these.
abbrev pub Foresees : Option (List (ℕ × ℕ)) → List (ℕ × ℕ) → Type 0
Foresees None first = Unit {0}
Foresees (Some stores) first = (rest : List (ℕ × ℕ)) × (stores ≡ first ++ rest)

-- If stores are told, they are these.
abbrev pub Expects : Option (List (ℕ × ℕ)) → List (ℕ × ℕ) → Type 0
Expects None all = Unit {0}
Expects (Some stores) all = stores ≡ all

-- What is expected once n stores more are made.
abbrev pub after : ℕ → Option (List (ℕ × ℕ)) → Option (List (ℕ × ℕ))
after n None = None
after n (Some stores) = Some (drop n stores)

-- What is told once n stores more have made these words.
abbrev pub told_after : ℕ → List ℕ → Told → Told
told_after n words t = record { words = words; lawful = t.lawful; expects = after n t.expects }

-- What is told once v is stored at word a.
abbrev pub with_store : ℕ → ℕ → Told → Told
with_store a v t = told_after 1 (slice_set t.words a v) t
