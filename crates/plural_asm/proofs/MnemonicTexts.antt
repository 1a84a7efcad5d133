-- The mnemonics and the registers are found by their texts.
use Rattle.std.proofs.Common.{◌≡◌, ℕ, ◌<◌, Bool, true, false, eqb, Option, Some, None, length, refl, ap}
use Rattle.std.specs.Prelude.{nat_lt}
use Rattle.std.specs.List.{list_all}
use Rattle.std.proofs.lemmas.Bool.{agree_below_at, eqb-true, ltb-true}
use Rattle.plural_isa.specs.RegisterNames.{plain_name, named}
use Rattle.plural_isa.specs.declared.instr.BranchOp.{BranchOp}
use Rattle.plural_isa.specs.declared.instr.BranchOp.TheVariants as branch
use Rattle.plural_isa.specs.declared.instr.LoadOp.{LoadOp}
use Rattle.plural_isa.specs.declared.instr.LoadOp.TheVariants as load
use Rattle.plural_isa.specs.declared.instr.StoreOp.{StoreOp}
use Rattle.plural_isa.specs.declared.instr.StoreOp.TheVariants as store
use Rattle.plural_isa.specs.declared.instr.ImmOp.{ImmOp}
use Rattle.plural_isa.specs.declared.instr.ImmOp.TheVariants as imm
use Rattle.plural_isa.specs.declared.instr.RegOp.{RegOp}
use Rattle.plural_isa.specs.declared.instr.RegOp.TheVariants as reg
use Rattle.plural_statement.specs.Mnemonics.{mnemonic_text, mnemonic_of}
use Rattle.plural_statement.specs.declared.mnemonics.Mnemonic.{Mnemonic}
use Rattle.plural_statement.specs.declared.mnemonics.Mnemonic.TheVariants as m
use Rattle.plural_asm.proofs.Plain.{is_word, IsOperand, solid_of}

-- a mnemonic is found by its text, which isn't empty and has bytes of a word alone
abbrev pub IsSpelled : Mnemonic → Type 0
IsSpelled k = (list_all is_word (mnemonic_text k) ≡ true) × (nat_lt 0 (length (mnemonic_text k)) ≡ true) × (mnemonic_of (mnemonic_text k) ≡ Some k)

-- A branch is found by its text.
pub spelled_branch : (op : BranchOp) → IsSpelled (m.Branch op)
spelled_branch branch.Beq = (refl, refl, refl)
spelled_branch _ = (refl, refl, refl)

-- A load is found by its text.
pub spelled_load : (op : LoadOp) → IsSpelled (m.Load op)
spelled_load load.Lb = (refl, refl, refl)
spelled_load _ = (refl, refl, refl)

-- A store is found by its text.
pub spelled_store : (op : StoreOp) → IsSpelled (m.Store op)
spelled_store store.Sb = (refl, refl, refl)
spelled_store _ = (refl, refl, refl)

-- An operation on an immediate is found by its text.
pub spelled_imm : (op : ImmOp) → IsSpelled (m.Imm op)
spelled_imm imm.Addi = (refl, refl, refl)
spelled_imm _ = (refl, refl, refl)

-- An operation on two registers is found by its text.
pub spelled_reg : (op : RegOp) → IsSpelled (m.Reg op)
spelled_reg reg.Add = (refl, refl, refl)
spelled_reg _ = (refl, refl, refl)

-- `lui` is found by its text.
pub spelled_lui : IsSpelled m.Lui
spelled_lui = (refl, refl, refl)

-- `auipc` is found by its text.
pub spelled_auipc : IsSpelled m.Auipc
spelled_auipc = (refl, refl, refl)

-- `jal` is found by its text.
pub spelled_jal : IsSpelled m.Jal
spelled_jal = (refl, refl, refl)

-- `jalr` is found by its text.
pub spelled_jalr : IsSpelled m.Jalr
spelled_jalr = (refl, refl, refl)

-- `.word` is found by its text.
pub spelled_word : IsSpelled m.Word
spelled_word = (refl, refl, refl)

-- ---- registers

-- this number is there
abbrev is_there : Option ℕ → ℕ → Bool
is_there None n = false
is_there (Some k) n = eqb k n

there : (o : Option ℕ) (n : ℕ) → is_there o n ≡ true → o ≡ Some n
there None n h = absurd cc
there (Some k) n h = ap (λ (j : ℕ). Some j) (eqb-true k n h)

-- a register is found by its plain name
pub named_back : (r : ℕ) → r < 32 → named (plain_name r) ≡ Some r
named_back r l = there (named (plain_name r)) r (agree_below_at (λ r. is_there (named (plain_name r)) r) (λ r. true) 32 r refl l)

name_words : (r : ℕ) → r < 32 → list_all is_word (plain_name r) ≡ true
name_words r l = agree_below_at (λ r. list_all is_word (plain_name r)) (λ r. true) 32 r refl l

name_some : (r : ℕ) → r < 32 → 0 < length (plain_name r)
name_some r l = ltb-true 0 (length (plain_name r)) (agree_below_at (λ r. nat_lt 0 (length (plain_name r))) (λ r. true) 32 r refl l)

-- A register's plain name is an operand.
pub name_operand : (r : ℕ) → r < 32 → IsOperand (plain_name r)
name_operand r l = record { solid = solid_of (plain_name r) (name_words r l); some = name_some r l }
