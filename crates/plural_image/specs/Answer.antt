-- What an error of reading says of the lines.
use Rattle.std.specs.Prelude.{ℕ, List}
use Rattle.plural_bytes.specs.Lines.{TextLine}
use Rattle.plural_sections.specs.Errors.{Tells}
use Rattle.plural_image.specs.Image.{Breaks, rank}
use Rattle.plural_sections.specs.declared.line_error.LineError.{LineError}
use Rattle.plural_image.specs.declared.fault.ImageKind.{ImageKind}

-- An error with a line is the first fault of the lines; that memory ran out says nothing of them.
abbrev pub Faults : ℕ → List TextLine → LineError ImageKind → Type 0
Faults w lines error = Tells rank (Breaks w) lines error
