-- What an error says of lines.
use Rattle.std.specs.Prelude.{ℕ, ◌≡◌, List, ⊤}
use Rattle.plural_bytes.specs.Lines.{TextLine}
use Rattle.plural_sections.specs.Faults.{IsFirstFault}
use Rattle.plural_sections.specs.declared.line_error.LineError.{LineError}
use Rattle.plural_sections.specs.declared.line_error.LineError.TheVariants.{At, Memory}

-- An error with a line tells the first fault of the lines; that memory ran out says nothing of them.
abbrev pub Tells : {K : Type 0} (rank : K → ℕ) (Breaks : List TextLine → List ℕ → K → Type 0) → List TextLine
    → LineError K → Type 0
Tells rank Breaks lines Memory = ⊤
Tells rank Breaks lines (At number kind) = IsFirstFault rank Breaks lines number kind

-- The error with its kind under another name.
abbrev pub renamed : {K L : Type 0} → (K → L) → LineError K → LineError L
renamed of Memory = Memory
renamed of (At number kind) = At number (of kind)

-- An error is another with its kind under a name that this relation gives it.
abbrev pub IsRenamed : {K L : Type 0} → (K → L → Type 0) → LineError K → LineError L → Type 0
IsRenamed Gives Memory Memory = ⊤
IsRenamed Gives Memory (At number kind) = ⊥
IsRenamed Gives (At number kind) Memory = ⊥
IsRenamed Gives (At n k) (At number kind) = (number ≡ n) × Gives k kind
