-- The label and the instruction of a kernel line, before the labels' places are known.
use Rattle.std.specs.Prelude.{ℕ, Bool, List, Option, Some, None, Result, MatchOption, ⊤, ℤ, pos, negsuc, neg_ℤ, ◌≤ℤ◌, option_map, option_and_then, length, if◌then◌else◌, ◌==◌}
use Rattle.std.specs.Option.{option_map_or}
use Rattle.std.specs.List.{before_first, after_first}
use Rattle.plural_bytes.specs.Lines.{is_blank, drop_while}
use Rattle.plural_base.specs.Names.{name_of}
use Rattle.plural_isa.specs.RegisterNames.{named}
use Rattle.plural_isa.specs.Encoding.{word_of}
use Rattle.plural_isa.specs.Table.{is_shift}
use Rattle.plural_bytes.specs.declared.numerals.NumberError.{NumberError}
use Rattle.plural_isa.specs.declared.instr.Instr.{Instr}
use Rattle.plural_isa.specs.declared.instr.Instr.TheVariants as instr
use Rattle.plural_isa.specs.declared.instr.BranchOp.TheVariants as branch
use Rattle.plural_isa.specs.declared.instr.ImmOp.TheVariants as imm
use Rattle.plural_isa.specs.declared.instr.RegOp.TheVariants as reg
use Rattle.plural_statement.specs.Mnemonics.{mnemonic_of}
use Rattle.plural_statement.specs.Operands.{operands, one_of, two_of, three_of, unsigned_in, signed_in, word_in, formed, halves, indexed}
use Rattle.plural_statement.specs.declared.mnemonics.Mnemonic.{Mnemonic}
use Rattle.plural_statement.specs.declared.mnemonics.Mnemonic.TheVariants as m
use Rattle.plural_statement.specs.declared.statement.Target.{Target}
use Rattle.plural_statement.specs.declared.statement.Target.TheVariants.{Offset, Label}
use Rattle.plural_statement.specs.declared.statement.Statement.{Statement}
use Rattle.plural_statement.specs.declared.statement.Statement.TheVariants.{Nothing, Known, Li, Jump, Branch}
use Rattle.plural_statement.specs.declared.statement.KernelLine.{KernelLine}

-- An instruction with an immediate, if the immediate is in its range.
abbrev pub with_imm : (ℤ → Instr) → Option ℤ → Statement
with_imm f z = Known (option_map (λ i. word_of (f i)) z)

-- An instruction with a field of 20 bits, if the field is in its range.
abbrev pub with_field : (ℕ → Instr) → Option ℕ → Statement
with_field f n = Known (option_map (λ i. word_of (f i)) n)

abbrev pub is_empty : List ℕ → Bool
is_empty text = length (drop_while is_blank text) == 0

-- No operands: this word.
abbrev pub bare : ℕ → List ℕ → Option Statement
bare word o = if is_empty o then Some (Known (Some word)) else None

-- An immediate of 12 bits is in its range, if there is one.
abbrev pub IsImmediate : Option ℤ → Type 0
IsImmediate z = MatchOption z ⊤ (λ n. (neg_ℤ (pos 2048) ≤ℤ n) × (n ≤ℤ pos 2047))

-- `rd, imm` with a field of 20 bits.
abbrev pub reg_field : List ℕ → Option (ℕ × Option ℕ)
reg_field o =
    option_and_then (λ p. option_and_then (λ rd. formed (λ n. (rd, n)) (unsigned_in 1048575 p.1)) (named p.0))
    (two_of (operands o))

-- `rd, imm(rs1)` or `rs2, imm(rs1)`: the first register, the immediate and the register of the address.
abbrev pub reg_indexed : List ℕ → Option (ℕ × Option ℤ × ℕ)
reg_indexed o =
    option_and_then
    (λ p. option_and_then
    (λ a. option_and_then (λ q. option_and_then (λ b. formed (λ z. (a, z, b)) (signed_in 2048 2047 q.0)) (named q.1))
    (indexed p.1))
    (named p.0))
    (two_of (operands o))

-- The range of the third operand of an operation on an immediate.
abbrev pub imm_in : Bool → List ℕ → Result ℤ NumberError
imm_in shifts t = if shifts then signed_in 0 31 t else signed_in 2048 2047 t

-- `rd, rs1, imm`.
abbrev pub regs_imm : Bool → List ℕ → Option (ℕ × ℕ × Option ℤ)
regs_imm shifts o =
    option_and_then
    (λ p. option_and_then (λ a. option_and_then (λ b. formed (λ z. (a, b, z)) (imm_in shifts p.2)) (named p.1))
    (named p.0))
    (three_of (operands o))

-- `rd, rs`.
abbrev pub two_regs : List ℕ → Option (ℕ × ℕ)
two_regs o =
    option_and_then (λ p. option_and_then (λ a. option_map (λ b. (a, b)) (named p.1)) (named p.0))
    (two_of (operands o))

-- `rd, rs1, rs2`.
abbrev pub three_regs : List ℕ → Option (ℕ × ℕ × ℕ)
three_regs o =
    option_and_then
    (λ p. option_and_then (λ a. option_and_then (λ b. option_map (λ c. (a, b, c)) (named p.2)) (named p.1)) (named p.0))
    (three_of (operands o))

-- A target: a signed numeral, or a name.
abbrev pub target_of : List ℕ → Option Target
target_of t =
    option_map_or (λ u. Some u) (formed (λ z. Offset z) (signed_in 2147483647 2147483647 t))
    (option_map (λ n. Label n) (name_of t))

-- `rd, target` or `rs, target`.
abbrev pub reg_target : List ℕ → Option (ℕ × Target)
reg_target o =
    option_and_then (λ p. option_and_then (λ a. option_map (λ t. (a, t)) (target_of p.1)) (named p.0))
    (two_of (operands o))

-- `rs1, rs2, target`.
abbrev pub regs_target : List ℕ → Option (ℕ × ℕ × Target)
regs_target o =
    option_and_then
    (λ p. option_and_then (λ a. option_and_then (λ b. option_map (λ t. (a, b, t)) (target_of p.2)) (named p.1))
    (named p.0))
    (three_of (operands o))

-- `target`.
abbrev pub one_target : List ℕ → Option Target
one_target o = option_and_then (λ a. target_of a) (one_of (operands o))

-- `n` of `.word`: the statement of its word, or of one that is out of its range.
abbrev pub one_word : List ℕ → Option Statement
one_word o = option_and_then (λ a. formed (λ n. Known n) (unsigned_in 4294967295 a)) (one_of (operands o))

-- `rd, v` of `li`.
abbrev pub reg_word : List ℕ → Option (ℕ × Option ℕ)
reg_word o =
    option_and_then (λ p. option_and_then (λ a. formed (λ v. (a, v)) (word_in p.1)) (named p.0)) (two_of (operands o))

-- The word of `fence`: all accesses before it come before all accesses after it.
abbrev pub fence_word : ℕ
fence_word = 0x0ff0000f

-- What a mnemonic and the text of its operands say, if they have the mnemonic's shape; below the table's.
-- Own mnemonics stand the pseudo-instructions.
abbrev pub statement_at : Mnemonic → List ℕ → Option Statement
statement_at (m.Branch op) o = option_map (λ r. Branch op r.0 r.1 r.2) (regs_target o)
statement_at (m.Load op) o = option_map (λ r. with_imm (λ z. instr.Load op r.0 r.2 z) r.1) (reg_indexed o)
statement_at (m.Store op) o = option_map (λ r. with_imm (λ z. instr.Store op r.2 r.0 z) r.1) (reg_indexed o)
statement_at (m.Imm op) o = option_map (λ r. with_imm (λ z. instr.OpImm op r.0 r.1 z) r.2) (regs_imm (is_shift op) o)
statement_at (m.Reg op) o = option_map (λ r. Known (Some (word_of (instr.Op op r.0 r.1 r.2)))) (three_regs o)
statement_at m.Lui o = option_map (λ r. with_field (λ n. instr.Lui r.0 n) r.1) (reg_field o)
statement_at m.Auipc o = option_map (λ r. with_field (λ n. instr.Auipc r.0 n) r.1) (reg_field o)
statement_at m.Jal o = option_map (λ r. Jump r.0 r.1) (reg_target o)
statement_at m.Jalr o = option_map (λ r. with_imm (λ z. instr.Jalr r.0 r.2 z) r.1) (reg_indexed o)
statement_at m.Fence o = bare fence_word o
statement_at m.Ecall o = bare (word_of instr.Ecall) o
statement_at m.Ebreak o = bare (word_of instr.Ebreak) o
statement_at m.Word o = one_word o
statement_at m.Nop o = bare (word_of (instr.OpImm imm.Addi 0 0 (pos 0))) o
statement_at m.Mv o = option_map (λ r. Known (Some (word_of (instr.OpImm imm.Addi r.0 r.1 (pos 0))))) (two_regs o)
statement_at m.Not o = option_map (λ r. Known (Some (word_of (instr.OpImm imm.Xori r.0 r.1 (negsuc 0))))) (two_regs o)
statement_at m.Neg o = option_map (λ r. Known (Some (word_of (instr.Op reg.Sub r.0 0 r.1)))) (two_regs o)
statement_at m.J o = option_map (λ t. Jump 0 t) (one_target o)
statement_at m.Beqz o = option_map (λ r. Branch branch.Beq r.0 0 r.1) (reg_target o)
statement_at m.Bnez o = option_map (λ r. Branch branch.Bne r.0 0 r.1) (reg_target o)
statement_at m.Li o = option_map (λ r. Li r.0 r.1) (reg_word o)

abbrev pub is_colon : ℕ → Bool
is_colon c = c == 58

-- The name that a text begins with directly before a colon, and what stands after that colon.
abbrev pub label_split : List ℕ → Option (List ℕ × List ℕ)
label_split text = option_and_then (λ r. option_map (λ n. (n, r.1)) (name_of r.0)) (halves is_colon text)

-- The label of a line, if it has one.
abbrev pub label_of : List ℕ → Option (List ℕ)
label_of text = option_map (λ r. r.0) (label_split text)

-- The line without its label.
abbrev pub unlabelled : List ℕ → List ℕ
unlabelled text = option_map_or (λ r. r.1) (label_split text) text

-- What a text without a label says: a mnemonic and, after a blank, its operands.
abbrev pub instruction : List ℕ → Option Statement
instruction text =
    if is_empty text then Some Nothing
    else option_and_then (λ k. statement_at k (after_first is_blank (drop_while is_blank text)))
    (mnemonic_of (before_first is_blank (drop_while is_blank text)))

-- A kernel line.
abbrev pub line_of : List ℕ → KernelLine
line_of text = record { label = label_of text; statement = instruction (unlabelled text) }
