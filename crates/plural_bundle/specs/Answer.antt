-- What an error of reading says of a bundle.
use Rattle.std.specs.Prelude.{ℕ, ◌≡◌, ◌⊎◌, List, codes}
use Rattle.plural_bytes.specs.Lines.{TextLine}
use Rattle.plural_sections.specs.Faults.{IsFaultless, closed}
use Rattle.plural_sections.specs.Errors.{Tells}
use Rattle.plural_sections.specs.Borders.{IsHeaded, IsMissing}
use Rattle.plural_sections.specs.Kinds.{rank}
use Rattle.plural_bundle.specs.Rules.{Breaks}
use Rattle.plural_sections.specs.declared.line_error.LineError.{LineError}
use Rattle.plural_sections.specs.declared.line_error.LineError.TheVariants.{At, Memory}
use Rattle.plural_sections.specs.declared.fault.Fault.{Fault}
use Rattle.plural_sections.specs.declared.fault.Fault.TheVariants as fault
use Rattle.plural_map_text.specs.declared.fault.MapKind.{MapKind}
use Rattle.plural_map_text.specs.declared.fault.MapKind.TheVariants as kinds
use Rattle.plural_map_text.specs.Kinds.{map_fault}

-- The lines of this input are a bundle: none has a fault, nor has the end of the text, which is seen as a line without
-- text of number `end`.
abbrev pub IsBundle : (input lines : List TextLine) (end : ℕ) → Type 0
IsBundle input lines end = IsFaultless (Breaks input lines) (closed lines end)

-- An error with a line is the first fault of the lines and their end; that memory ran out says nothing of them.
abbrev pub Faults : (input lines : List TextLine) (end : ℕ) → LineError Fault → Type 0
Faults input lines end error = Tells rank (Breaks input lines) (closed lines end) error

-- What an error of the map lines is in a bundle with this rest after them. A cycle, which is a fault of the line that
-- closes the map's section, gives way to a fault of form of this line: it is told if the header of the kernels closes
-- the section, and else that the header is missing.
abbrev pub IsMapTold : (rest : List TextLine) → (end : ℕ) → LineError MapKind → LineError Fault → Type 0
IsMapTold rest end Memory error = error ≡ Memory
IsMapTold rest end (At number (kinds.Cycle names)) error =
    IsMissing (codes "[kernels]") rest end error
    ⊎ (((more : List TextLine) × IsHeaded (codes "[kernels]") rest more) × (error ≡ At number (fault.Cycle names)))
IsMapTold rest end (At number kind) error = error ≡ At number (map_fault kind)
