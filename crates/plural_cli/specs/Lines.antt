-- What a command answers to an input that has to be a bundle.
use Rattle.std.specs.Prelude.{ℕ, ◌+◌, ◌⊎◌, List, length}
use Rattle.plural_bytes.specs.Lines.{TextLine, pieces, content_lines}
use Rattle.plural_sections.specs.Faults.{closed}
use Rattle.plural_sections.specs.Kinds.{rank}
use Rattle.plural_bundle.specs.Rules.{Breaks}
use Rattle.plural_bundle.specs.Value.{BundleValue, bundle_of}
use Rattle.plural_bundle.specs.Answer.{IsBundle}
use Rattle.plural_cli.specs.FaultLine.{bundle_fault_text, IsRefused}

-- The number of the line after the last, to which a text that ends too early is charged.
abbrev pub line_after : List ℕ → ℕ
line_after bytes = length (pieces bytes) + 1

-- The lines of this input have a fault as a bundle, and the answer tells the first.
abbrev pub IsFaulty : (input lines : List TextLine) (end : ℕ) (status : ℕ) (text : List ℕ) → Type 0
IsFaulty input lines end status text =
    IsRefused rank bundle_fault_text (Breaks input lines) (closed lines end) status text

-- What the answer to a bundle has to be: a relation of the bundle, the status and the text.
abbrev pub Answered : Type 1
Answered = BundleValue → (status : ℕ) (text : List ℕ) → Type 0

-- The lines are a bundle, and the answer is one to this bundle; or they have a fault, and the answer tells the first.
abbrev pub LinesToBundle : Answered → (lines : List TextLine) (end : ℕ) (status : ℕ) (text : List ℕ) → Type 0
LinesToBundle Is lines end status text =
    (IsBundle lines lines end × Is (bundle_of lines) status text) ⊎ IsFaulty lines lines end status text

-- The answer to an input is that to its content lines.
abbrev pub ToBundle : Answered → (bytes : List ℕ) (status : ℕ) (text : List ℕ) → Type 0
ToBundle Is bytes status text = LinesToBundle Is (content_lines bytes) (line_after bytes) status text
