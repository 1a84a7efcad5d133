-- The faults of a section's lines, and the first of them. A rule `Breaks` says which kinds of fault a line has, by
-- the lines before it in its section and its own text.
use Rattle.std.specs.Prelude.{◌≡◌, ℕ, ◌≤◌, List, ◌∷◌, ◌++◌, []}
use Rattle.plural_bytes.specs.Lines.{TextLine}

-- A line of this number has a fault of this kind.
pub record HasFault {K : Type 0} (Breaks : List TextLine → List ℕ → K → Type 0) (lines : List TextLine) (number : ℕ)
    (kind : K) : Type 0 where
  pub before : List TextLine
  pub text : List ℕ
  pub after : List TextLine
  pub whole : lines ≡ before ++ (number, text) ∷ after
  pub breaks : Breaks before text kind

-- No line has a fault.
pub record IsFaultless {K : Type 0} (Breaks : List TextLine → List ℕ → K → Type 0)
    (lines : List TextLine) : Type 0 where
  pub none : (number : ℕ) (kind : K) → HasFault Breaks lines number kind → ⊥

-- A line of this number has a fault of this kind, no line before it has a fault, and it has none of a lesser kind.
pub record IsFirstFault {K : Type 0} (rank : K → ℕ) (Breaks : List TextLine → List ℕ → K → Type 0)
    (lines : List TextLine) (number : ℕ) (kind : K) : Type 0 where
  pub before : List TextLine
  pub text : List ℕ
  pub after : List TextLine
  pub whole : lines ≡ before ++ (number, text) ∷ after
  pub earlier : IsFaultless Breaks before
  pub breaks : Breaks before text kind
  pub least : (other : K) → Breaks before text other → rank kind ≤ rank other

-- The lines of a section and the line that closes it, which is seen as a line without text.
abbrev pub closed : List TextLine → ℕ → List TextLine
closed lines end = lines ++ (end, []) ∷ []
