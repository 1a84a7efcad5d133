-- The faults of a format's lines by its table: the shapes of its lines, and the kinds of faults that a line of a
-- shape has after so many lines that spell so much. A format gives the shape of a text, the value that lines spell,
-- the table and the order of the kinds; these words give the rule of its lines, a line's fault and what a check of a
-- line answers.
use Rattle.std.specs.Prelude.{◌≡◌, ℕ, ◌≤◌, true, List, [], ◌∷◌, Option, MatchOption, length, fold, nat_lt}
use Rattle.std.specs.Option.{option_map_or}
use Rattle.plural_bytes.specs.Lines.{TextLine}

-- No kind is there.
abbrev pub HasNone : {K : Type 0} → (K → Type 0) → Type 0
HasNone {K} Has = (kind : K) → Has kind → ⊥

-- The kind is there, and none of a lesser number is.
abbrev pub IsLeast : {K : Type 0} → (rank : K → ℕ) → (K → Type 0) → K → Type 0
IsLeast {K} rank Has kind = Has kind × ((other : K) → Has other → rank kind ≤ rank other)

-- None of the kinds, if there is none, or the least of them: what a check of a line answers.
abbrev pub IsVerdict : {K : Type 0} → (rank : K → ℕ) → (K → Type 0) → Option K → Type 0
IsVerdict rank Has verdict = MatchOption verdict (HasNone Has) (λ kind. IsLeast rank Has kind)

-- The kinds of a line: form alone if it has no shape, else those that the table gives its shape.
abbrev pub KindsOf : {S K : Type 0} → (form : K) → (Table : S → K → Type 0) → Option S → K → Type 0
KindsOf form Table shape kind = MatchOption shape (kind ≡ form) (λ s. Table s kind)

-- The fault of a line: form if it has no shape, else the least that the table gives its shape.
abbrev pub IsLineFault : {S K : Type 0} → (rank : K → ℕ) → (form : K) → (Table : S → K → Type 0) → Option S → K → Type 0
IsLineFault rank form Table shape kind = MatchOption shape (kind ≡ form) (λ s. IsLeast rank (Table s) kind)

-- The rule of a format's lines. Its table takes how many lines stand before a line, and the value that these spell.
abbrev pub BreaksBy : {S V K : Type 0} → (shape_of : List ℕ → Option S) → (form : K) → (value : List TextLine → V)
    → (Table : ℕ → V → S → K → Type 0) → List TextLine → List ℕ → K → Type 0
BreaksBy shape_of form value Table before text kind =
    KindsOf form (Table (length before) (value before)) (shape_of text) kind

-- The line that closes a section has a fault of form if fewer than `least` lines stand before it.
abbrev pub ClosesEarly : {K : Type 0} → (form : K) → (least n : ℕ) → K → Type 0
ClosesEarly form least n kind = (kind ≡ form) × (nat_lt n least ≡ true)

-- The rule of a section's lines with the line that closes it, which is seen as a line without text: this one may close
-- the section early, and the others have the kinds of the format's rule.
abbrev pub BreaksClosed : {K : Type 0} → (form : K) → (least : ℕ) → (Lines : List TextLine → List ℕ → K → Type 0)
    → List TextLine → List ℕ → K → Type 0
BreaksClosed form least Lines before [] kind = ClosesEarly form least (length before) kind
BreaksClosed form least Lines before (c ∷ cs) kind = Lines before (c ∷ cs) kind

-- The same rule with kinds of its own for the line that closes the section.
abbrev pub BreaksEnded : {K : Type 0} → (Ends : List TextLine → K → Type 0)
    → (Lines : List TextLine → List ℕ → K → Type 0) → List TextLine → List ℕ → K → Type 0
BreaksEnded Ends Lines before [] kind = Ends before kind
BreaksEnded Ends Lines before (c ∷ cs) kind = Lines before (c ∷ cs) kind

-- The fault of a line of such a section after n lines.
abbrev pub IsClosedFault : {K : Type 0} → (form : K) → (least n : ℕ) → (IsFault : List ℕ → K → Type 0) → List ℕ → K
    → Type 0
IsClosedFault form least n IsFault [] kind = ClosesEarly form least n kind
IsClosedFault form least n IsFault (c ∷ cs) kind = IsFault (c ∷ cs) kind

-- The value that lines spell, each of which adds what its shape says; one without a shape adds nothing.
abbrev pub spelled_by : {S V : Type 0} → (shape_of : List ℕ → Option S) → (with_line : V → S → V) → (nothing : V)
    → List TextLine → V
spelled_by shape_of with_line nothing lines = fold (λ v l. option_map_or (with_line v) (shape_of l.1) v) nothing lines
