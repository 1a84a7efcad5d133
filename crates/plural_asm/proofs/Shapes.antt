-- The text of an instruction is read as the instruction, shape by shape.
use Rattle.std.proofs.Common.{◌≡◌, ℕ, ◌+◌, ◌-◌, Bool, true, false, cond, eqb, Some, List, [], ◌∷◌, ◌++◌, length, take, drop, get_or, refl, ap, sym, ◌∙◌, arith, append_assoc, length-append}
use Rattle.std.specs.Prelude.{ℤ, ◌==◌, Ok, option_map, option_and_then}
use Rattle.std.specs.Option.{option_map_or}
use Rattle.std.specs.List.{before_first, after_first}
use Rattle.std.proofs.lemmas.Bool.{and_from, ltb-true, ne_eqb, cond-true, cond-false}
use Rattle.std.proofs.lemmas.List.{length_push, take_at, get_or_at}
use Rattle.std.proofs.lemmas.List.Folds.{list_all-append}
use Rattle.plural_bytes.specs.Lines.{is_blank, drop_while}
use Rattle.plural_base.specs.Names.{name_of}
use Rattle.plural_base.proofs.ListTests.{HasNone, position_at, before_at, after_at, drop_past}
use Rattle.plural_bytes.proofs.PrintedLines.{begins_of, no_first_blanks}
use Rattle.plural_isa.specs.RegisterNames.{named}
use Rattle.plural_statement.specs.Mnemonics.{mnemonic_text, mnemonic_of}
use Rattle.plural_statement.specs.Operands.{is_open, one_of, two_of, three_of, unsigned_in, signed_in, formed, halves, indexed}
use Rattle.plural_statement.specs.Statement.{reg_field, reg_indexed, imm_in, regs_imm, three_regs, target_of, reg_target, regs_target, one_word, statement_at, instruction}
use Rattle.plural_statement.specs.declared.mnemonics.Mnemonic.{Mnemonic}
use Rattle.plural_statement.specs.declared.statement.Target.{Target}
use Rattle.plural_statement.specs.declared.statement.Target.TheVariants.{Offset, Label}
use Rattle.plural_statement.specs.declared.statement.Statement.TheVariants.{Nothing, Known}
use Rattle.plural_asm.proofs.Plain.{is_solid, IsOperand, solid_of, plain_of, no_blank, one_operand, two_operands, three_operands}
use Rattle.plural_asm.proofs.MnemonicTexts.{IsSpelled}

-- ---- the mnemonic and its operands

-- A mnemonic, a blank and operands are the statement of the mnemonic.
pub instruction_at : (k : Mnemonic) (o : List ℕ) → IsSpelled k → instruction (mnemonic_text k ++ 32 ∷ o) ≡ statement_at k o
instruction_at k o s =
    let text = mnemonic_text k ++ 32 ∷ o in
    let front : drop_while is_blank text ≡ text = no_first_blanks text (begins_of (mnemonic_text k) (32 ∷ o) (plain_of (mnemonic_text k) (solid_of (mnemonic_text k) s.0)) (ltb-true 0 (length (mnemonic_text k)) s.1)) in
    let some : eqb (length text) 0 ≡ false = ne_eqb (length text) 0 (λ e. omega (arith, length-append (mnemonic_text k) (32 ∷ o))) in
    ap (λ t. cond (length t == 0) (Some Nothing) (option_and_then (λ j. statement_at j (after_first is_blank t)) (mnemonic_of (before_first is_blank t)))) front
    ∙ cond-false _ _ _ some
    ∙ ap (λ t. option_and_then (λ j. statement_at j t) (mnemonic_of (before_first is_blank text))) (after_at is_blank (mnemonic_text k) 32 o (no_blank (mnemonic_text k) s.0) refl)
    ∙ ap (λ t. option_and_then (λ j. statement_at j o) (mnemonic_of t)) (before_at is_blank (mnemonic_text k) 32 o (no_blank (mnemonic_text k) s.0) refl)
    ∙ ap (option_and_then (λ j. statement_at j o)) s.2

-- ---- `imm(rs1)`

-- an immediate and a register, as an operand
abbrev pub address_text : (z b : List ℕ) → List ℕ
address_text z b = z ++ 40 ∷ (b ++ 41 ∷ [])

-- An immediate and a register in parentheses are an operand.
pub address_operand : (z b : List ℕ) → IsOperand z → IsOperand b → IsOperand (address_text z b)
address_operand z b hz hb = record {
  solid = list_all-append is_solid z (40 ∷ (b ++ 41 ∷ [])) ∙ and_from _ _ hz.solid (list_all-append is_solid b (41 ∷ []) ∙ and_from _ _ hb.solid refl);
  some = omega (arith, length-append z (40 ∷ (b ++ 41 ∷ [])));
}

halves_at : (z b : List ℕ) → HasNone is_open z → halves is_open (z ++ 40 ∷ b) ≡ Some (z, b)
halves_at z b h =
    ap (option_map (λ i. (take i (z ++ 40 ∷ b), drop (i + 1) (z ++ 40 ∷ b)))) (position_at is_open z 40 b h refl)
    ∙ ap (λ t. Some (t, drop (length z + 1) (z ++ 40 ∷ b))) (take_at z (40 ∷ b) (length z) refl)
    ∙ ap (λ t. Some (z, t)) (drop_past z 40 b)

indexed_push : (u : List ℕ) → indexed (u ++ 41 ∷ []) ≡ halves is_open u
indexed_push u =
    let n : length (u ++ 41 ∷ []) - 1 ≡ length u = omega (arith, length_push u 41) in
    let g : get_or (u ++ 41 ∷ []) (length u) 0 ≡ 41 = get_or_at u 41 [] 0 (length u) refl in
    let t : eqb (get_or (u ++ 41 ∷ []) (length (u ++ 41 ∷ []) - 1) 0) 41 ≡ true = rw (n, g) refl in
    cond-true _ _ _ t ∙ ap (λ k. halves is_open (take k (u ++ 41 ∷ []))) n ∙ ap (halves is_open) (take_at u (41 ∷ []) (length u) refl)

indexed_at : (z b : List ℕ) → HasNone is_open z → indexed (address_text z b) ≡ Some (z, b)
indexed_at z b h = ap indexed (sym (append_assoc z (40 ∷ b) (41 ∷ []))) ∙ indexed_push (z ++ 40 ∷ b) ∙ halves_at z b h

-- ---- the shapes of operands

-- A register and a field.
pub reg_field_is : (x y : List ℕ) (a n : ℕ) → IsOperand x → IsOperand y → named x ≡ Some a → unsigned_in 1048575 y ≡ Ok n → reg_field (x ++ 44 ∷ 32 ∷ y) ≡ Some (a, Some n)
reg_field_is x y a n hx hy r u =
    ap (λ ts. option_and_then (λ p. option_and_then (λ rd. formed (λ n. (rd, n)) (unsigned_in 1048575 p.1)) (named p.0)) (two_of ts)) (two_operands x y hx hy)
    ∙ ap (option_and_then (λ rd. formed (λ n. (rd, n)) (unsigned_in 1048575 y))) r
    ∙ ap (formed (λ n. (a, n))) u

-- A register and a target.
pub reg_target_is : (x y : List ℕ) (a : ℕ) (t : Target) → IsOperand x → IsOperand y → named x ≡ Some a → target_of y ≡ Some t → reg_target (x ++ 44 ∷ 32 ∷ y) ≡ Some (a, t)
reg_target_is x y a t hx hy r u =
    ap (λ ts. option_and_then (λ p. option_and_then (λ a. option_map (λ t. (a, t)) (target_of p.1)) (named p.0)) (two_of ts)) (two_operands x y hx hy)
    ∙ ap (option_and_then (λ a. option_map (λ t. (a, t)) (target_of y))) r
    ∙ ap (option_map (λ t. (a, t))) u

-- A register and an address.
pub reg_indexed_is : (x z b : List ℕ) (a c : ℕ) (v : ℤ) → IsOperand x → IsOperand z → IsOperand b → HasNone is_open z → named x ≡ Some a → named b ≡ Some c → signed_in 2048 2047 z ≡ Ok v
    → reg_indexed (x ++ 44 ∷ 32 ∷ address_text z b) ≡ Some (a, Some v, c)
reg_indexed_is x z b a c v hx hz hb none r s u =
    ap (λ ts. option_and_then (λ p. option_and_then (λ a. option_and_then (λ q. option_and_then (λ b. formed (λ z. (a, z, b)) (signed_in 2048 2047 q.0)) (named q.1)) (indexed p.1)) (named p.0)) (two_of ts)) (two_operands x (address_text z b) hx (address_operand z b hz hb))
    ∙ ap (option_and_then (λ a. option_and_then (λ q. option_and_then (λ b. formed (λ z. (a, z, b)) (signed_in 2048 2047 q.0)) (named q.1)) (indexed (address_text z b)))) r
    ∙ ap (option_and_then (λ q. option_and_then (λ b. formed (λ z. (a, z, b)) (signed_in 2048 2047 q.0)) (named q.1))) (indexed_at z b none)
    ∙ ap (option_and_then (λ b. formed (λ z. (a, z, b)) (signed_in 2048 2047 z))) s
    ∙ ap (formed (λ z. (a, z, c))) u

-- Two registers and an immediate.
pub regs_imm_is : (shifts : Bool) (x y z : List ℕ) (a b : ℕ) (v : ℤ) → IsOperand x → IsOperand y → IsOperand z → named x ≡ Some a → named y ≡ Some b → imm_in shifts z ≡ Ok v
    → regs_imm shifts (x ++ 44 ∷ 32 ∷ (y ++ 44 ∷ 32 ∷ z)) ≡ Some (a, b, Some v)
regs_imm_is shifts x y z a b v hx hy hz r s u =
    ap (λ ts. option_and_then (λ p. option_and_then (λ a. option_and_then (λ b. formed (λ z. (a, b, z)) (imm_in shifts p.2)) (named p.1)) (named p.0)) (three_of ts)) (three_operands x y z hx hy hz)
    ∙ ap (option_and_then (λ a. option_and_then (λ b. formed (λ z. (a, b, z)) (imm_in shifts z)) (named y))) r
    ∙ ap (option_and_then (λ b. formed (λ z. (a, b, z)) (imm_in shifts z))) s
    ∙ ap (formed (λ z. (a, b, z))) u

-- Three registers.
pub three_regs_is : (x y z : List ℕ) (a b c : ℕ) → IsOperand x → IsOperand y → IsOperand z → named x ≡ Some a → named y ≡ Some b → named z ≡ Some c → three_regs (x ++ 44 ∷ 32 ∷ (y ++ 44 ∷ 32 ∷ z)) ≡ Some (a, b, c)
three_regs_is x y z a b c hx hy hz r s u =
    ap (λ ts. option_and_then (λ p. option_and_then (λ a. option_and_then (λ b. option_map (λ c. (a, b, c)) (named p.2)) (named p.1)) (named p.0)) (three_of ts)) (three_operands x y z hx hy hz)
    ∙ ap (option_and_then (λ a. option_and_then (λ b. option_map (λ c. (a, b, c)) (named z)) (named y))) r
    ∙ ap (option_and_then (λ b. option_map (λ c. (a, b, c)) (named z))) s
    ∙ ap (option_map (λ c. (a, b, c))) u

-- Two registers and a target.
pub regs_target_is : (x y z : List ℕ) (a b : ℕ) (t : Target) → IsOperand x → IsOperand y → IsOperand z → named x ≡ Some a → named y ≡ Some b → target_of z ≡ Some t
    → regs_target (x ++ 44 ∷ 32 ∷ (y ++ 44 ∷ 32 ∷ z)) ≡ Some (a, b, t)
regs_target_is x y z a b t hx hy hz r s u =
    ap (λ ts. option_and_then (λ p. option_and_then (λ a. option_and_then (λ b. option_map (λ t. (a, b, t)) (target_of p.2)) (named p.1)) (named p.0)) (three_of ts)) (three_operands x y z hx hy hz)
    ∙ ap (option_and_then (λ a. option_and_then (λ b. option_map (λ t. (a, b, t)) (target_of z)) (named y))) r
    ∙ ap (option_and_then (λ b. option_map (λ t. (a, b, t)) (target_of z))) s
    ∙ ap (option_map (λ t. (a, b, t))) u

-- A number is a target.
pub target_is : (y : List ℕ) (z : ℤ) → signed_in 2147483647 2147483647 y ≡ Ok z → target_of y ≡ Some (Offset (Some z))
target_is y z e = ap (λ r. option_map_or (λ u. Some u) (formed (λ z. Offset z) r) (option_map (λ n. Label n) (name_of y))) e

-- A word.
pub one_word_is : (x : List ℕ) (w : ℕ) → IsOperand x → unsigned_in 4294967295 x ≡ Ok w → one_word x ≡ Some (Known (Some w))
one_word_is x w h u =
    ap (λ ts. option_and_then (λ a. formed (λ n. Known n) (unsigned_in 4294967295 a)) (one_of ts)) (one_operand x h)
    ∙ ap (formed (λ n. Known n)) u
