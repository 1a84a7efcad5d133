-- The text of a word, as an assembler line.
use Rattle.std.specs.Prelude.{ℕ, List, [], ◌∷◌, ◌++◌, Option, Some, None, ℤ, pos, codes, if◌then◌else◌, ◌==◌}
use Rattle.std.specs.Fmt.{signed_decimal}
use Rattle.plural_bytes.specs.Hexadecimal.{hex_text}
use Rattle.plural_isa.specs.Decoding.{decoded}
use Rattle.plural_isa.specs.RegisterNames.{plain_name}
use Rattle.plural_isa.specs.declared.instr.Instr.{Instr}
use Rattle.plural_isa.specs.declared.instr.Instr.TheVariants as instr
use Rattle.plural_statement.specs.Mnemonics.{mnemonic_text}
use Rattle.plural_statement.specs.Statement.{fence_word}
use Rattle.plural_statement.specs.declared.mnemonics.Mnemonic.{Mnemonic}
use Rattle.plural_statement.specs.declared.mnemonics.Mnemonic.TheVariants as m

-- A mnemonic and the blank before its first operand.
abbrev pub head_text : Mnemonic → List ℕ
head_text k = mnemonic_text k ++ 32 ∷ []

-- `m a, z`.
abbrev pub reg_number_text : Mnemonic → ℕ → ℤ → List ℕ
reg_number_text k a z = ((head_text k ++ plain_name a) ++ codes ", ") ++ signed_decimal z

-- `m a, z(b)`.
abbrev pub reg_address_text : Mnemonic → ℕ → ℤ → ℕ → List ℕ
reg_address_text k a z b = ((reg_number_text k a z ++ codes "(") ++ plain_name b) ++ codes ")"

-- `m a, b, z`.
abbrev pub regs_number_text : Mnemonic → (a b : ℕ) → ℤ → List ℕ
regs_number_text k a b z =
    ((((head_text k ++ plain_name a) ++ codes ", ") ++ plain_name b) ++ codes ", ") ++ signed_decimal z

-- `m a, b, c`.
abbrev pub regs_text : Mnemonic → (a b c : ℕ) → List ℕ
regs_text k a b c = ((((head_text k ++ plain_name a) ++ codes ", ") ++ plain_name b) ++ codes ", ") ++ plain_name c

-- `.word 0x` and eight digits.
abbrev pub data_text : ℕ → List ℕ
data_text w = codes ".word 0x" ++ hex_text 8 w

-- The text of a word's instruction; a fence other than `fence` is data.
abbrev pub instr_text : ℕ → Instr → List ℕ
instr_text w (instr.Lui rd imm) = reg_number_text m.Lui rd (pos imm)
instr_text w (instr.Auipc rd imm) = reg_number_text m.Auipc rd (pos imm)
instr_text w (instr.Jal rd offset) = reg_number_text m.Jal rd offset
instr_text w (instr.Jalr rd rs1 imm) = reg_address_text m.Jalr rd imm rs1
instr_text w (instr.Branch op rs1 rs2 offset) = regs_number_text (m.Branch op) rs1 rs2 offset
instr_text w (instr.Load op rd rs1 imm) = reg_address_text (m.Load op) rd imm rs1
instr_text w (instr.Store op rs1 rs2 imm) = reg_address_text (m.Store op) rs2 imm rs1
instr_text w (instr.OpImm op rd rs1 imm) = regs_number_text (m.Imm op) rd rs1 imm
instr_text w (instr.Op op rd rs1 rs2) = regs_text (m.Reg op) rd rs1 rs2
instr_text w (instr.Fence fields) = if w == fence_word then mnemonic_text m.Fence else data_text w
instr_text w instr.Ecall = mnemonic_text m.Ecall
instr_text w instr.Ebreak = mnemonic_text m.Ebreak

-- The text of a word by its instruction, if it has one.
abbrev pub text_from : ℕ → Option Instr → List ℕ
text_from w None = data_text w
text_from w (Some i) = instr_text w i

-- The text of a word.
abbrev pub word_text : ℕ → List ℕ
word_text w = text_from w (decoded w)
