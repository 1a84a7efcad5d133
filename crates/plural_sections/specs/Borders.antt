-- Where sections meet: what stands first in lines, or their end.
use Rattle.std.specs.Prelude.{ℕ, ◌≡◌, true, false, List, [], ◌∷◌, ◌++◌, bytes_eq, ⊤}
use Rattle.std.specs.List.{AllByRecursion}
use Rattle.plural_bytes.specs.Lines.{TextLine, has_text}
use Rattle.plural_sections.specs.declared.fault.Fault.{Fault}
use Rattle.plural_sections.specs.declared.fault.Fault.TheVariants.{Form}
use Rattle.plural_sections.specs.declared.line_error.LineError.{LineError}
use Rattle.plural_sections.specs.declared.line_error.LineError.TheVariants.{At}
use Rattle.plural_sections.specs.Sections.{closes}

-- The first of lines, or their end as a line without text.
abbrev pub head_of : List TextLine → (end : ℕ) → TextLine
head_of [] end = (end, [])
head_of (l ∷ ls) end = l

-- There is no first line, or it closes a section.
abbrev pub IsClosed : List TextLine → Type 0
IsClosed [] = ⊤
IsClosed (l ∷ ls) = closes l.1 ≡ true

-- The lines are a line that is this header, and the rest.
pub record IsHeaded (header : List ℕ) (lines rest : List TextLine) : Type 0 where
  pub number : ℕ
  pub whole : lines ≡ (number, header) ∷ rest

-- What stands first isn't this header, and this error names it with a fault of form.
pub record IsMissing (header : List ℕ) (lines : List TextLine) (end : ℕ) (error : LineError Fault) : Type 0 where
  pub other : bytes_eq (head_of lines end).1 header ≡ false
  pub is : error ≡ At (head_of lines end).0 Form

-- No line has a text.
abbrev pub AllBlank : List TextLine → Type 0
AllBlank lines = AllByRecursion (λ l. has_text l.1 ≡ false) lines

-- A line has a text, none before it has, and this error names it with a fault of form.
pub record IsLeftOver (lines : List TextLine) (error : LineError Fault) : Type 0 where
  pub before : List TextLine
  pub line : TextLine
  pub after : List TextLine
  pub whole : lines ≡ before ++ line ∷ after
  pub blank : AllBlank before
  pub text : has_text line.1 ≡ true
  pub is : error ≡ At line.0 Form
