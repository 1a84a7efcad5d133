-- The mnemonics of kernel lines: those of the instruction table, and this assembler's own.
use Rattle.std.specs.Prelude.{ℕ, List, [], ◌∷◌, Option, Some, None, codes, bytes_eq, find}
use Rattle.plural_isa.specs.Table.{text_of, operation_named}
use Rattle.plural_isa.specs.declared.table.Operation.{Operation}
use Rattle.plural_isa.specs.declared.table.Operation.TheVariants as o
use Rattle.plural_statement.specs.declared.mnemonics.Mnemonic.{Mnemonic}
use Rattle.plural_statement.specs.declared.mnemonics.Mnemonic.TheVariants as m

-- The mnemonic of an operation of the table.
abbrev pub of_table : Operation → Mnemonic
of_table (o.Branch op) = m.Branch op
of_table (o.Load op) = m.Load op
of_table (o.Store op) = m.Store op
of_table (o.Imm op) = m.Imm op
of_table (o.Reg op) = m.Reg op
of_table o.Lui = m.Lui
of_table o.Auipc = m.Auipc
of_table o.Jal = m.Jal
of_table o.Jalr = m.Jalr
of_table o.Fence = m.Fence
of_table o.Ecall = m.Ecall
of_table o.Ebreak = m.Ebreak

-- The text of a mnemonic.
abbrev pub mnemonic_text : Mnemonic → List ℕ
mnemonic_text (m.Branch op) = text_of (o.Branch op)
mnemonic_text (m.Load op) = text_of (o.Load op)
mnemonic_text (m.Store op) = text_of (o.Store op)
mnemonic_text (m.Imm op) = text_of (o.Imm op)
mnemonic_text (m.Reg op) = text_of (o.Reg op)
mnemonic_text m.Lui = text_of o.Lui
mnemonic_text m.Auipc = text_of o.Auipc
mnemonic_text m.Jal = text_of o.Jal
mnemonic_text m.Jalr = text_of o.Jalr
mnemonic_text m.Fence = text_of o.Fence
mnemonic_text m.Ecall = text_of o.Ecall
mnemonic_text m.Ebreak = text_of o.Ebreak
mnemonic_text m.Word = codes ".word"
mnemonic_text m.Nop = codes "nop"
mnemonic_text m.Mv = codes "mv"
mnemonic_text m.Not = codes "not"
mnemonic_text m.Neg = codes "neg"
mnemonic_text m.J = codes "j"
mnemonic_text m.Beqz = codes "beqz"
mnemonic_text m.Bnez = codes "bnez"
mnemonic_text m.Li = codes "li"

-- This assembler's own mnemonics.
abbrev pub own_mnemonics : List Mnemonic
own_mnemonics = m.Word ∷ m.Nop ∷ m.Mv ∷ m.Not ∷ m.Neg ∷ m.J ∷ m.Beqz ∷ m.Bnez ∷ m.Li ∷ []

-- The mnemonic of the table, if there is one, else this assembler's own.
abbrev pub table_or : Option Mnemonic → Option Operation → Option Mnemonic
table_or own None = own
table_or own (Some operation) = Some (of_table operation)

-- The mnemonic that a text is, if it is one.
abbrev pub mnemonic_of : List ℕ → Option Mnemonic
mnemonic_of text = table_or (find (λ k. bytes_eq text (mnemonic_text k)) own_mnemonics) (operation_named text)
