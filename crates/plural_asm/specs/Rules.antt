-- The faults of kernel lines. Labels and targets are looked up in the whole list of lines.
use Rattle.std.specs.Prelude.{◌≡◌, ℕ, ◌+◌, Bool, true, false, ◌||◌, ◌&&◌, List, Option, Some, None, length, is_some, is_none, nat_lt, nat_le}
use Rattle.plural_bytes.specs.Lines.{TextLine}
use Rattle.plural_sections.specs.Errors.{Tells}
use Rattle.plural_statement.specs.Statement.{line_of}
use Rattle.plural_asm.specs.Labels.{words_in, place_after, place_of}
use Rattle.plural_asm.specs.Words.{target_offset, labels_of}
use Rattle.plural_statement.specs.declared.statement.Statement.{Statement}
use Rattle.plural_statement.specs.declared.statement.Statement.TheVariants.{Nothing, Known, Li, Jump, Branch}
use Rattle.plural_statement.specs.declared.statement.KernelLine.{KernelLine}
use Rattle.plural_asm.specs.declared.offset.Offset.{Offset}
use Rattle.plural_asm.specs.declared.offset.Offset.TheVariants.{Unknown, Far, At}
use Rattle.plural_asm.specs.declared.object.AsmKind.{AsmKind}
use Rattle.plural_asm.specs.declared.object.AsmKind.TheVariants as kinds
use Rattle.plural_sections.specs.declared.line_error.LineError.{LineError}

-- An instruction's number is out of its range.
abbrev pub is_out_of_range : Option Statement → Bool
is_out_of_range None = false
is_out_of_range (Some Nothing) = false
is_out_of_range (Some (Known word)) = is_none word
is_out_of_range (Some (Li rd v)) = is_none v
is_out_of_range (Some (Jump rd t)) = false
is_out_of_range (Some (Branch op rs1 rs2 t)) = false

-- The label stands on an earlier line.
abbrev pub is_defined : (List ℕ → Option ℕ) → Option (List ℕ) → Bool
is_defined earlier None = false
is_defined earlier (Some name) = is_some (earlier name)

-- A target's name is no label.
abbrev pub is_unknown : Option Offset → Bool
is_unknown None = false
is_unknown (Some Unknown) = true
is_unknown (Some Far) = false
is_unknown (Some (At z)) = false

-- A target's offset is out of its range, or odd.
abbrev pub is_far : Option Offset → Bool
is_far None = false
is_far (Some Unknown) = false
is_far (Some Far) = true
is_far (Some (At z)) = false

-- The table of kinds, for a line after so many words and labels, with the earlier labels and the offset of
-- its target.
abbrev pub HasKind : (List ℕ → Option ℕ) → (here labels : ℕ) → KernelLine → Option Offset → AsmKind → Type 0
HasKind earlier here labels line offset kinds.Form = is_none line.statement ≡ true
HasKind earlier here labels line offset kinds.Number = is_out_of_range line.statement ≡ true
HasKind earlier here labels line offset kinds.Name = (is_defined earlier line.label || is_unknown offset) ≡ true
HasKind earlier here labels line offset kinds.Count =
    (nat_lt 16384 (here + words_in line.statement) || (is_some line.label && nat_le 16384 labels)) ≡ true
HasKind earlier here labels line offset kinds.Reach = is_far offset ≡ true

-- The place of a kind in the table, the least first.
abbrev pub rank : AsmKind → ℕ
rank kinds.Form = 1
rank kinds.Number = 2
rank kinds.Name = 3
rank kinds.Count = 4
rank kinds.Reach = 5

-- A line of all the lines has a fault of a kind, after the lines before it.
abbrev pub Breaks : List TextLine → List TextLine → List ℕ → AsmKind → Type 0
Breaks all before text kind =
    HasKind (λ q. place_of before q) (place_after before) (length (labels_of before)) (line_of text)
    (target_offset (λ q. place_of all q) (place_after before) (line_of text).statement) kind

-- The first faulty line and its least kind, or that memory ran out.
abbrev pub Faults : List TextLine → LineError AsmKind → Type 0
Faults lines error = Tells rank (Breaks lines) lines error
