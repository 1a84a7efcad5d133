-- The first line of a bundle: `plural` and the number of the form's version, which is 1 or 2.
use Rattle.std.specs.Prelude.{ℕ, ◌≡◌, List, [], ◌∷◌, Option, Some, None, Result, Ok, Err, codes, bytes_eq, if◌then◌else◌}
use Rattle.plural_bytes.specs.Lines.{TextLine, tokens}
use Rattle.plural_bytes.specs.Numerals.{numeral}
use Rattle.plural_sections.specs.Numbers.{is_within}
use Rattle.plural_sections.specs.declared.line_error.LineError.{LineError}
use Rattle.plural_sections.specs.declared.line_error.LineError.TheVariants.{At}
use Rattle.plural_sections.specs.Borders.{head_of}
use Rattle.plural_sections.specs.declared.fault.Fault.{Fault}
use Rattle.plural_sections.specs.declared.fault.Fault.TheVariants as fault

-- A version that is read, or its fault: form if it is no numeral, number if it is neither 1 nor 2.
abbrev pub version_read : Option ℕ → Result ℕ Fault
version_read None = Err fault.Form
version_read (Some n) = if is_within 1 2 n then Ok n else Err fault.Number

-- The tokens `plural` and a version tell this version; others have a fault of form.
abbrev pub version_told : List (List ℕ) → Result ℕ Fault
version_told (w ∷ v ∷ []) = if bytes_eq w (codes "plural") then version_read (numeral v) else Err fault.Form
version_told ts = Err fault.Form

-- The version that a first line tells, or the fault that it has.
abbrev pub first_line : List ℕ → Result ℕ Fault
first_line text = version_told (tokens text)

-- A version that was told, 0 if none was.
abbrev pub version_or_none : Result ℕ Fault → ℕ
version_or_none (Ok version) = version
version_or_none (Err f) = 0

-- The version of a first line, 0 if it tells none.
abbrev pub version_of : List ℕ → ℕ
version_of text = version_or_none (first_line text)

-- The lines are a first line of a bundle that tells this version, and the rest.
pub record IsBegun (lines rest : List TextLine) (version : ℕ) : Type 0 where
  pub first : TextLine
  pub whole : lines ≡ first ∷ rest
  pub good : first_line first.1 ≡ Ok version

-- What stands first has a fault as the first line of a bundle, and this error names it.
pub record IsBadFirst (lines : List TextLine) (end : ℕ) (error : LineError Fault) : Type 0 where
  pub fault : Fault
  pub bad : first_line (head_of lines end).1 ≡ Err fault
  pub is : error ≡ At (head_of lines end).0 fault
