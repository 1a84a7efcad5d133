-- What holds of the table, of decoding and of encoding together.
use Rattle.std.specs.Prelude.{ℕ, ◌≡◌, ◌^◌, ◌<◌, true, Some}
use Rattle.plural_isa.specs.Table.{is_row_of}
use Rattle.plural_isa.specs.Decoding.{decoded}
use Rattle.plural_isa.specs.Encoding.{word_of, Fits, HasRegisters}
use Rattle.plural_isa.specs.declared.table.Operation.{Operation}
use Rattle.plural_isa.specs.declared.instr.Instr.{Instr}

-- A word has the row of at most one operation.
abbrev pub HasOneRow : Type 0
HasOneRow = (w : ℕ) (m n : Operation) → w < 2 ^ 32 → is_row_of m w ≡ true → is_row_of n w ≡ true → m ≡ n

-- The word of an instruction that fits decodes to the instruction.
abbrev pub InstrRoundTrip : Type 0
InstrRoundTrip = (i : Instr) → HasRegisters i → Fits i → decoded (word_of i) ≡ Some i

-- A word that decodes is the word of its instruction.
abbrev pub WordRoundTrip : Type 0
WordRoundTrip = (w : ℕ) (i : Instr) → w < 2 ^ 32 → decoded w ≡ Some i → word_of i ≡ w

-- The instruction that a word decodes to fits, and its registers are below 32.
abbrev pub DecodesFit : Type 0
DecodesFit = (w : ℕ) (i : Instr) → w < 2 ^ 32 → decoded w ≡ Some i → HasRegisters i × Fits i
