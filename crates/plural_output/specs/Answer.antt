-- What an error of reading says of an output.
use Rattle.std.specs.Prelude.{ℕ, List}
use Rattle.plural_bytes.specs.Lines.{TextLine}
use Rattle.plural_sections.specs.declared.fault.Fault.{Fault}
use Rattle.plural_sections.specs.declared.line_error.LineError.{LineError}
use Rattle.plural_sections.specs.Faults.{IsFaultless, closed}
use Rattle.plural_sections.specs.Kinds.{rank}
use Rattle.plural_sections.specs.Errors.{Tells}
use Rattle.plural_map.specs.Value.{TaskValue}
use Rattle.plural_output.specs.Rules.{Breaks}

-- The lines are an output of a run of these tasks over so many words: none has a fault, nor has the end of the text,
-- which is seen as a line without text of number `end`.
abbrev pub IsOutput : List TaskValue → (words : ℕ) → List TextLine → (end : ℕ) → Type 0
IsOutput tasks words lines end = IsFaultless (Breaks tasks words) (closed lines end)

-- An error tells the first fault of the lines and their end, or that memory ran out.
abbrev pub Faults : List TaskValue → (words : ℕ) → List TextLine → (end : ℕ) → LineError Fault → Type 0
Faults tasks words lines end error = Tells rank (Breaks tasks words) (closed lines end) error
