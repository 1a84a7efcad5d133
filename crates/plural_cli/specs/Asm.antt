-- What `asm` answers to kernel lines.
use Rattle.std.specs.Prelude.{ℕ, ◌≡◌, ◌⊎◌, List, [], ◌∷◌, ◌++◌, flat_map}
use Rattle.plural_bytes.specs.Lines.{TextLine, content_lines}
use Rattle.plural_sections.specs.Faults.{IsFaultless}
use Rattle.plural_image.specs.Print.{hex_text}
use Rattle.plural_asm.specs.Words.{code_of}
use Rattle.plural_asm.specs.Rules.{Breaks, rank}
use Rattle.plural_cli.specs.FaultLine.{kind_text, IsRefused}

-- Words, each as eight lower-case hexadecimal digits and a line end.
abbrev pub code_text : List ℕ → List ℕ
code_text words = flat_map (λ w. hex_text 8 w ++ 10 ∷ []) words

-- The answer to kernel lines without a fault: status 0, and the words of their code.
pub record IsAssembled (lines : List TextLine) (status : ℕ) (text : List ℕ) : Type 0 where
  pub faultless : IsFaultless (Breaks lines) lines
  pub status_is : status ≡ 0
  pub text_is : text ≡ code_text (code_of lines lines)

-- The status and the text of kernel lines: their code, or their first fault.
abbrev pub IsKernelAnswer : (lines : List TextLine) (status : ℕ) (text : List ℕ) → Type 0
IsKernelAnswer lines status text =
    IsAssembled lines status text ⊎ IsRefused rank kind_text (Breaks lines) lines status text

-- The status and the text of an input that is not too long are those of its content lines.
abbrev pub IsAsmAnswer : (bytes : List ℕ) (status : ℕ) (text : List ℕ) → Type 0
IsAsmAnswer bytes status text = IsKernelAnswer (content_lines bytes) status text
