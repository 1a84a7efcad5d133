-- What was read of an input that has to be a bundle.
use Rattle.std.specs.Prelude.{ℕ, ◌≡◌, ◌≤◌, ◌%◌, List, length}
use Rattle.plural_bytes.specs.Lines.{TextLine, content_lines}
use Rattle.plural_serial.specs.Program.{IsProgram}
use Rattle.plural_bundle.specs.Value.{BundleValue, bundle_of}
use Rattle.plural_bundle.specs.Answer.{IsBundle}
use Rattle.plural_cli.specs.Lines.{line_after, IsFaulty}
use Rattle.plural_cli.specs.declared.reading.Reading.{Reading}
use Rattle.plural_cli.specs.declared.reading.Reading.TheVariants.{Whole, Faulty}

-- The lines of this input are a bundle of this value, whose image has the words of its map.
pub record IsWhole (input lines : List TextLine) (end : ℕ) (b : BundleValue) : Type 0 where
  pub bundle : IsBundle input lines end
  pub value : b ≡ bundle_of lines
  pub program : IsProgram b.program
  pub image : length b.image ≡ b.program.map.words
  pub rows : length b.image % 8 ≡ 0
  pub small : length b.image ≤ 1048576

-- A bundle was read if the lines are one; else the answer tells the first fault.
abbrev pub IsReading : (input lines : List TextLine) (end : ℕ) → Reading → Type 0
IsReading input lines end (Whole b) = IsWhole input lines end b
IsReading input lines end (Faulty a) = IsFaulty input lines end a.status a.text.items

-- What was read of an input is what its content lines are.
abbrev pub IsReadingOf : (bytes : List ℕ) → Reading → Type 0
IsReadingOf bytes r = IsReading (content_lines bytes) (content_lines bytes) (line_after bytes) r
