-- The words and the labels that kernel lines make.
use Rattle.std.specs.Prelude.{ℕ, ◌+◌, ◌*◌, ◌/◌, ◌%◌, Bool, ◌&&◌, List, [], ◌∷◌, ◌++◌, Option, Some, None, ℤ, pos, negsuc, ◌-ℤ◌, nat_lt, unwrap_or, if◌then◌else◌, ◌==◌}
use Rattle.std.specs.Option.{option_map_or}
use Rattle.plural_bytes.specs.Lines.{TextLine}
use Rattle.plural_isa.specs.Fields.{signed}
use Rattle.plural_isa.specs.Encoding.{word_of, IsOffset}
use Rattle.plural_isa.specs.declared.instr.Instr.TheVariants as instr
use Rattle.plural_isa.specs.declared.instr.BranchOp.{BranchOp}
use Rattle.plural_isa.specs.declared.instr.ImmOp.TheVariants as imm
use Rattle.plural_statement.specs.Statement.{label_of, line_of}
use Rattle.plural_asm.specs.Labels.{is_short, size_of, place_of}
use Rattle.plural_statement.specs.declared.statement.Target.{Target}
use Rattle.plural_statement.specs.declared.statement.Target.TheVariants as target
use Rattle.plural_statement.specs.declared.statement.Statement.{Statement}
use Rattle.plural_statement.specs.declared.statement.Statement.TheVariants.{Nothing, Known, Li, Jump, Branch}
use Rattle.plural_asm.specs.declared.offset.Offset.{Offset}
use Rattle.plural_asm.specs.declared.offset.Offset.TheVariants.{Unknown, Far, At}
use Rattle.plural_asm.specs.declared.object.Label.{Label}

-- A number below half, of this parity.
abbrev pub is_near : (n half parity : ℕ) → Bool
is_near n half parity = nat_lt n half && n % 2 == parity

-- An offset is even, and from -half to half - 1.
abbrev pub reaches : ℕ → ℤ → Bool
reaches half (pos n) = is_near n half 0
reaches half (negsuc n) = is_near n half 1

-- An offset, or that the instruction does not reach it.
abbrev pub offset_in : ℕ → ℤ → Offset
offset_in half z = if reaches half z then At z else Far

-- The offset of a target from a place, for an instruction that reaches from -half to half - 1, if
-- `place` gives the places of labels.
abbrev pub offset_at : (List ℕ → Option ℕ) → (here half : ℕ) → Target → Offset
offset_at place here half (target.Offset None) = Far
offset_at place here half (target.Offset (Some z)) = offset_in half z
offset_at place here half (target.Label name) =
    option_map_or (λ p. offset_in half (pos (4 * p) -ℤ pos (4 * here))) (place name) Unknown

-- An offset that is known is one that the instruction reaches.
abbrev pub IsReached : ℕ → Offset → Type 0
IsReached half (At z) = IsOffset half z
IsReached half _ = Unit {0}

-- The low 12 bits of a word as a signed number.
abbrev pub low_part : ℕ → ℤ
low_part w = signed 2048 (w % 4096)

-- The upper 20 bits that, with the low part added, give the word.
abbrev pub high_part : ℕ → ℕ
high_part w = (w + 2048) / 4096 % 1048576

-- The words of `li`: `addi rd, x0, v` if the value is short, else `lui` and, if the low part
-- isn't 0, `addi rd, rd, low`.
abbrev pub li_words : (rd w : ℕ) → List ℕ
li_words rd w =
    if is_short w then word_of (instr.OpImm imm.Addi rd 0 (low_part w)) ∷ []
    else if w % 4096 == 0 then word_of (instr.Lui rd (high_part w)) ∷ []
    else word_of (instr.Lui rd (high_part w)) ∷ word_of (instr.OpImm imm.Addi rd rd (low_part w)) ∷ []

-- The word of a jump; 0 stands if its line has a fault.
abbrev pub jump_word : ℕ → Offset → ℕ
jump_word rd (At z) = word_of (instr.Jal rd z)
jump_word rd _ = 0

-- The word of a branch; 0 stands if its line has a fault.
abbrev pub branch_word : BranchOp → (rs1 rs2 : ℕ) → Offset → ℕ
branch_word op rs1 rs2 (At z) = word_of (instr.Branch op rs1 rs2 z)
branch_word op rs1 rs2 _ = 0

-- The offset of an instruction's target, if it has a target.
abbrev pub target_offset : (List ℕ → Option ℕ) → ℕ → Option Statement → Option Offset
target_offset place here None = None
target_offset place here (Some Nothing) = None
target_offset place here (Some (Known word)) = None
target_offset place here (Some (Li rd v)) = None
target_offset place here (Some (Jump rd t)) = Some (offset_at place here 1048576 t)
target_offset place here (Some (Branch op rs1 rs2 t)) = Some (offset_at place here 4096 t)

-- The words of an instruction at a place; 0 stands if its line has a fault.
abbrev pub words_at : (List ℕ → Option ℕ) → ℕ → Option Statement → List ℕ
words_at place here None = 0 ∷ []
words_at place here (Some Nothing) = []
words_at place here (Some (Known word)) = unwrap_or word 0 ∷ []
words_at place here (Some (Li rd None)) = 0 ∷ []
words_at place here (Some (Li rd (Some w))) = li_words rd w
words_at place here (Some (Jump rd t)) = jump_word rd (offset_at place here 1048576 t) ∷ []
words_at place here (Some (Branch op rs1 rs2 t)) = branch_word op rs1 rs2 (offset_at place here 4096 t) ∷ []

-- What lines make one after the other. Each line is told how many words stand before it.
abbrev pub gathered : {A : Type 0} → (ℕ → List ℕ → List A) → ℕ → List TextLine → List A
gathered make here [] = []
gathered make here (l ∷ ls) = make here l.1 ++ gathered make (here + size_of l.1) ls

-- The words of lines, with the places that labels have in all lines.
abbrev pub code_of : (all lines : List TextLine) → List ℕ
code_of all lines = gathered (λ here text. words_at (λ q. place_of all q) here (line_of text).statement) 0 lines

-- The label of a line at a place, with its pc: four times the number of words before it.
abbrev pub label_at : ℕ → Option (List ℕ) → List Label
label_at here None = []
label_at here (Some name) = record { name = name; pc = 4 * here } ∷ []

-- The labels of lines, in the order of the lines.
abbrev pub labels_of : List TextLine → List Label
labels_of lines = gathered (λ here text. label_at here (label_of text)) 0 lines
