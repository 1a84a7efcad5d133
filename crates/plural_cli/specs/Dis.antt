-- What `dis` answers to words.
use Rattle.std.specs.Prelude.{ℕ, ◌≡◌, ◌≤◌, ◌⊎◌, List, [], ◌∷◌, ◌++◌, None, length, flat_map}
use Rattle.std.specs.Option.{option_map_or}
use Rattle.plural_bytes.specs.Lines.{TextLine, content_lines}
use Rattle.plural_sections.specs.Faults.{IsFaultless}
use Rattle.plural_sections.specs.Numbers.{word_token}
use Rattle.plural_asm.specs.WordText.{word_text}
use Rattle.plural_asm.specs.declared.object.AsmKind.{AsmKind}
use Rattle.plural_asm.specs.declared.object.AsmKind.TheVariants as kinds
use Rattle.plural_asm.specs.Rules.{rank}
use Rattle.plural_cli.specs.FaultLine.{kind_text, IsRefused}

-- A line's kinds of fault: form if it is no word of eight hexadecimal digits, count if 16,384 lines or more stand
-- before it.
abbrev pub dis_breaks : List TextLine → List ℕ → AsmKind → Type 0
dis_breaks before text kinds.Form = word_token text ≡ None
dis_breaks before text kinds.Number = ⊥
dis_breaks before text kinds.Name = ⊥
dis_breaks before text kinds.Count = 16384 ≤ length before
dis_breaks before text kinds.Reach = ⊥

-- The assembler line of a word, and a line end.
abbrev pub word_line : ℕ → List ℕ
word_line word = word_text word ++ 10 ∷ []

-- The assembler lines of the words that lines spell.
abbrev pub dis_text : List TextLine → List ℕ
dis_text lines = flat_map (λ l. option_map_or word_line (word_token l.1) []) lines

-- The answer to words without a fault: status 0, and their assembler lines.
pub record IsDisassembled (lines : List TextLine) (status : ℕ) (text : List ℕ) : Type 0 where
  pub faultless : IsFaultless dis_breaks lines
  pub status_is : status ≡ 0
  pub text_is : text ≡ dis_text lines

-- The status and the text of lines: the assembler lines of their words, or their first fault.
abbrev pub IsWordsAnswer : (lines : List TextLine) (status : ℕ) (text : List ℕ) → Type 0
IsWordsAnswer lines status text =
    IsDisassembled lines status text ⊎ IsRefused rank kind_text dis_breaks lines status text

-- The status and the text of an input that is not too long are those of its content lines.
abbrev pub IsDisAnswer : (bytes : List ℕ) (status : ℕ) (text : List ℕ) → Type 0
IsDisAnswer bytes status text = IsWordsAnswer (content_lines bytes) status text
