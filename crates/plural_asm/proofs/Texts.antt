-- The text of a word is a line that says the word.
use Rattle.std.proofs.Common.{◌≡◌, ℕ, ◌%◌, ◌^◌, ◌<◌, Bool, true, false, eqb, Option, Some, None, List, [], ◌∷◌, ◌++◌, length, refl, ap, sym, ◌∙◌, arith, append_assoc, inl, inr}
use Rattle.std.specs.Prelude.{ℤ, pos, negsuc, neg_ℤ, ◌≤ℤ◌, ◌<ℤ◌, codes, decimal, is_none, option_map, Ok}
use Rattle.std.specs.List.{list_all}
use Rattle.std.specs.Fmt.{signed_decimal}
use Rattle.std.proofs.lemmas.Int.{ints}
use Rattle.std.proofs.lemmas.Bool.{and_from, ltb-true, lt-ltb, eq-eqb, eqb-true, cases_Bool, cond-true, cond-false}
use Rattle.plural_bytes.specs.Hexadecimal.{hex_text}
use Rattle.plural_base.proofs.ListTests.{HasNone, none_pass}
use Rattle.plural_isa.specs.RegisterNames.{plain_name}
use Rattle.plural_isa.specs.Decoding.{decoded}
use Rattle.plural_isa.specs.Table.{is_shift}
use Rattle.plural_isa.specs.Encoding.{word_of, IsWithin, IsOffset, IsAmount, Fits, HasRegisters}
use Rattle.plural_isa.specs.declared.instr.BranchOp.{BranchOp}
use Rattle.plural_isa.specs.declared.instr.ImmOp.{ImmOp}
use Rattle.plural_isa.specs.declared.instr.RegOp.{RegOp}
use Rattle.plural_isa.specs.declared.instr.Instr.{Instr}
use Rattle.plural_isa.specs.declared.instr.Instr.TheVariants as instr
use Rattle.plural_isa.proofs.DecodedRanges.{decodes_fit}
use Rattle.plural_isa.proofs.WordRoundTrip.{word_round_trip}
use Rattle.plural_statement.specs.Mnemonics.{mnemonic_text}
use Rattle.plural_statement.specs.Operands.{is_open}
use Rattle.plural_statement.specs.Statement.{fence_word, with_imm, with_field, reg_field, reg_indexed, imm_in, target_of, statement_at, instruction}
use Rattle.plural_asm.specs.Labels.{words_in}
use Rattle.plural_asm.specs.Words.{reaches, offset_in, jump_word, branch_word, target_offset, words_at}
use Rattle.plural_asm.specs.Rules.{is_out_of_range, is_unknown, is_far}
use Rattle.plural_asm.specs.WordText.{reg_number_text, reg_address_text, regs_number_text, regs_text, data_text, instr_text, text_from, word_text}
use Rattle.plural_statement.specs.declared.mnemonics.Mnemonic.{Mnemonic}
use Rattle.plural_statement.specs.declared.mnemonics.Mnemonic.TheVariants as m
use Rattle.plural_statement.specs.declared.statement.Target.TheVariants.{Offset}
use Rattle.plural_statement.specs.declared.statement.Statement.{Statement}
use Rattle.plural_statement.specs.declared.statement.Statement.TheVariants.{Known, Jump, Branch}
use Rattle.plural_asm.specs.declared.offset.Offset.TheVariants.{At}
use Rattle.plural_asm.proofs.Plain.{is_word, IsOperand, word_no_open, solid_of}
use Rattle.plural_asm.proofs.Decimals.{IsBetween, signed_words, signed_some, unsigned_back, signed_back, hex_words, word_back}
use Rattle.plural_asm.proofs.UnlabelledLines.{IsUnlabelled, IsTail, last_tail, more_tail, word_line, tail_line}
use Rattle.plural_asm.proofs.MnemonicTexts as spelled
use Rattle.plural_asm.proofs.MnemonicTexts.{IsSpelled, named_back, name_operand}
use Rattle.plural_asm.proofs.Shapes.{instruction_at, address_text, address_operand, reg_field_is, reg_target_is, reg_indexed_is, regs_imm_is, three_regs_is, regs_target_is, target_is, one_word_is}

-- ---- what an instruction says

-- an instruction makes this one word at each place, and has no fault of its own
pub record Says (w : ℕ) (s : Option Statement) : Type 0 where
  pub words : (place : List ℕ → Option ℕ) (here : ℕ) → words_at place here s ≡ w ∷ []
  pub one : words_in s ≡ 1
  pub formed : is_none s ≡ false
  pub ranged : is_out_of_range s ≡ false
  pub placed : (place : List ℕ → Option ℕ) (here : ℕ) → is_unknown (target_offset place here s) ≡ false
  pub near : (place : List ℕ → Option ℕ) (here : ℕ) → is_far (target_offset place here s) ≡ false

says_known : (w v : ℕ) → v ≡ w → Says w (Some (Known (Some v)))
says_known w v e = record { words = λ place here. ap (λ x. x ∷ []) e; one = refl; formed = refl; ranged = refl; placed = λ place here. refl; near = λ place here. refl }

offset_reaches : (half : ℕ) (z : ℤ) → IsOffset half z → reaches half z ≡ true
offset_reaches half (pos n) h = and_from _ _ (lt-ltb n half (omega (arith, ints))) (eq-eqb (n % 2) 0 h.2)
offset_reaches half (negsuc n) h = and_from _ _ (lt-ltb n half (omega (arith, ints))) (eq-eqb (n % 2) 1 (omega (arith, ints)))

offset_at_is : (half : ℕ) (z : ℤ) → IsOffset half z → offset_in half z ≡ At z
offset_at_is half z h = cond-true _ _ _ (offset_reaches half z h)

says_jump : (w rd : ℕ) (z : ℤ) → IsOffset 1048576 z → word_of (instr.Jal rd z) ≡ w → Says w (Some (Jump rd (Offset (Some z))))
says_jump w rd z h e = record {
  words = λ place here. ap (λ o. jump_word rd o ∷ []) (offset_at_is 1048576 z h) ∙ ap (λ x. x ∷ []) e;
  one = refl;
  formed = refl;
  ranged = refl;
  placed = λ place here. ap (λ o. is_unknown (Some o)) (offset_at_is 1048576 z h);
  near = λ place here. ap (λ o. is_far (Some o)) (offset_at_is 1048576 z h);
}

says_branch : (w : ℕ) (op : BranchOp) (rs1 rs2 : ℕ) (z : ℤ) → IsOffset 4096 z → word_of (instr.Branch op rs1 rs2 z) ≡ w → Says w (Some (Branch op rs1 rs2 (Offset (Some z))))
says_branch w op rs1 rs2 z h e = record {
  words = λ place here. ap (λ o. branch_word op rs1 rs2 o ∷ []) (offset_at_is 4096 z h) ∙ ap (λ x. x ∷ []) e;
  one = refl;
  formed = refl;
  ranged = refl;
  placed = λ place here. ap (λ o. is_unknown (Some o)) (offset_at_is 4096 z h);
  near = λ place here. ap (λ o. is_far (Some o)) (offset_at_is 4096 z h);
}

-- ---- texts

-- a text is a line whose instruction makes this one word
pub record Spells (w : ℕ) (text : List ℕ) : Type 0 where
  pub line : IsUnlabelled text
  pub statement : Option Statement
  pub is : instruction text ≡ statement
  pub says : Says w statement

spells_tail : (w : ℕ) (k : Mnemonic) (o text : List ℕ) (s : Statement) → IsSpelled k → IsTail o → text ≡ mnemonic_text k ++ 32 ∷ o → statement_at k o ≡ Some s → Says w (Some s) → Spells w text
spells_tail w k o text s spelled tail same is says = record {
  line = rw same (tail_line (mnemonic_text k) o spelled.0 (ltb-true 0 (length (mnemonic_text k)) spelled.1) tail);
  statement = Some s;
  is = ap instruction same ∙ instruction_at k o spelled ∙ is;
  says = says;
}

two_parts : (k x y : List ℕ) → (((k ++ 32 ∷ []) ++ x) ++ codes ", ") ++ y ≡ k ++ 32 ∷ (x ++ 44 ∷ 32 ∷ y)
two_parts k x y = simp append_assoc

address_parts : (k x z b : List ℕ) → ((((((k ++ 32 ∷ []) ++ x) ++ codes ", ") ++ z) ++ codes "(") ++ b) ++ codes ")" ≡ k ++ 32 ∷ (x ++ 44 ∷ 32 ∷ address_text z b)
address_parts k x z b = simp append_assoc

three_parts : (k x y z : List ℕ) → (((((k ++ 32 ∷ []) ++ x) ++ codes ", ") ++ y) ++ codes ", ") ++ z ≡ k ++ 32 ∷ (x ++ 44 ∷ 32 ∷ (y ++ 44 ∷ 32 ∷ z))
three_parts k x y z = simp append_assoc

-- ---- numbers

-- a number that a line can spell
abbrev IsSmall : ℤ → Type 0
IsSmall z = (neg_ℤ (pos 2147483648) ≤ℤ z) × (z <ℤ pos 2147483648)

number_operand : (z : ℤ) → IsSmall z → IsOperand (signed_decimal z)
number_operand z h = record { solid = solid_of (signed_decimal z) (signed_words z h.0 h.1); some = signed_some z h.0 h.1 }

number_no_open : (z : ℤ) → IsSmall z → HasNone is_open (signed_decimal z)
number_no_open z h = none_pass is_word is_open word_no_open (signed_decimal z) (signed_words z h.0 h.1)

small_imm : (z : ℤ) → IsWithin 2048 z → IsSmall z
small_imm z h = (omega (arith, ints), omega (arith, ints))

imm_between : (z : ℤ) → IsWithin 2048 z → IsBetween 2048 2047 z
imm_between (pos n) h = (omega (arith, ints), omega (arith, ints))
imm_between (negsuc n) h = (omega (arith, ints), omega (arith, ints))

amount_between : (z : ℤ) → IsAmount true z → IsBetween 0 31 z
amount_between (pos n) h = (omega (arith, ints), omega (arith, ints))
amount_between (negsuc n) h = absurd (omega (arith, ints))

amount_back : (shifts : Bool) (z : ℤ) → IsAmount shifts z → imm_in shifts (signed_decimal z) ≡ Ok z
amount_back true z h = signed_back 0 31 z (amount_between z h)
amount_back false z h = signed_back 2048 2047 z (imm_between z h)

small_amount : (shifts : Bool) (z : ℤ) → IsAmount shifts z → IsSmall z
small_amount true z h = (omega (arith, ints), omega (arith, ints))
small_amount false z h = small_imm z h

small_jump : (z : ℤ) → IsOffset 1048576 z → IsSmall z
small_jump z h = (omega (arith, ints), omega (arith, ints))

small_branch : (z : ℤ) → IsOffset 4096 z → IsSmall z
small_branch z h = (omega (arith, ints), omega (arith, ints))

target_between : (z : ℤ) → (neg_ℤ (pos 1048576) ≤ℤ z) → (z <ℤ pos 1048576) → IsBetween 2147483647 2147483647 z
target_between (pos n) a b = (omega (arith, ints), omega (arith, ints))
target_between (negsuc n) a b = (omega (arith, ints), omega (arith, ints))

target_back : (z : ℤ) → (neg_ℤ (pos 1048576) ≤ℤ z) → (z <ℤ pos 1048576) → target_of (signed_decimal z) ≡ Some (Offset (Some z))
target_back z a b = target_is (signed_decimal z) z (signed_back 2147483647 2147483647 z (target_between z a b))

-- ---- each form of text

spells_field : (w : ℕ) (k : Mnemonic) (f : ℕ → ℕ → Instr) (rd n : ℕ) → IsSpelled k → ((o : List ℕ) → statement_at k o ≡ option_map (λ r. with_field (f r.0) r.1) (reg_field o)) → rd < 32 → n < 1048576 → word_of (f rd n) ≡ w
    → Spells w (reg_number_text k rd (pos n))
spells_field w k f rd n spelled shape r l e =
    let x = name_operand rd r in
    let y = number_operand (pos n) (omega (arith, ints), omega (arith, ints)) in
    let o = plain_name rd ++ 44 ∷ 32 ∷ decimal n in
    let read = reg_field_is (plain_name rd) (decimal n) rd n x y (named_back rd r) (unsigned_back 1048575 n (omega arith) (omega arith)) in
    spells_tail w k o _ (Known (Some (word_of (f rd n)))) spelled (more_tail (plain_name rd) (decimal n) x (last_tail (decimal n) y)) (two_parts (mnemonic_text k) (plain_name rd) (decimal n))
    (shape o ∙ ap (option_map (λ r. with_field (f r.0) r.1)) read) (says_known w (word_of (f rd n)) e)

spells_jump : (w rd : ℕ) (z : ℤ) → rd < 32 → IsOffset 1048576 z → word_of (instr.Jal rd z) ≡ w → Spells w (reg_number_text m.Jal rd z)
spells_jump w rd z r h e =
    let x = name_operand rd r in
    let y = number_operand z (small_jump z h) in
    let o = plain_name rd ++ 44 ∷ 32 ∷ signed_decimal z in
    let read = reg_target_is (plain_name rd) (signed_decimal z) rd (Offset (Some z)) x y (named_back rd r) (target_back z h.0 h.1) in
    spells_tail w m.Jal o _ (Jump rd (Offset (Some z))) spelled.spelled_jal (more_tail (plain_name rd) (signed_decimal z) x (last_tail (signed_decimal z) y)) (two_parts (mnemonic_text m.Jal) (plain_name rd) (signed_decimal z))
    (ap (option_map (λ r. Jump r.0 r.1)) read) (says_jump w rd z h e)

spells_address : (w : ℕ) (k : Mnemonic) (f : ℕ → ℕ → ℤ → Instr) (a b : ℕ) (z : ℤ) → IsSpelled k → ((o : List ℕ) → statement_at k o ≡ option_map (λ r. with_imm (f r.0 r.2) r.1) (reg_indexed o)) → a < 32 → b < 32 → IsWithin 2048 z
    → word_of (f a b z) ≡ w → Spells w (reg_address_text k a z b)
spells_address w k f a b z spelled shape ra rb h e =
    let small = small_imm z h in
    let x = name_operand a ra in
    let n = number_operand z small in
    let y = name_operand b rb in
    let t = address_text (signed_decimal z) (plain_name b) in
    let o = plain_name a ++ 44 ∷ 32 ∷ t in
    let read = reg_indexed_is (plain_name a) (signed_decimal z) (plain_name b) a b z x n y (number_no_open z small) (named_back a ra) (named_back b rb) (signed_back 2048 2047 z (imm_between z h)) in
    spells_tail w k o _ (Known (Some (word_of (f a b z)))) spelled (more_tail (plain_name a) t x (last_tail t (address_operand (signed_decimal z) (plain_name b) n y)))
    (address_parts (mnemonic_text k) (plain_name a) (signed_decimal z) (plain_name b)) (shape o ∙ ap (option_map (λ r. with_imm (f r.0 r.2) r.1)) read) (says_known w (word_of (f a b z)) e)

spells_imm : (w : ℕ) (op : ImmOp) (a b : ℕ) (z : ℤ) → a < 32 → b < 32 → IsAmount (is_shift op) z → word_of (instr.OpImm op a b z) ≡ w → Spells w (regs_number_text (m.Imm op) a b z)
spells_imm w op a b z ra rb h e =
    let x = name_operand a ra in
    let y = name_operand b rb in
    let n = number_operand z (small_amount (is_shift op) z h) in
    let o = plain_name a ++ 44 ∷ 32 ∷ (plain_name b ++ 44 ∷ 32 ∷ signed_decimal z) in
    let read = regs_imm_is (is_shift op) (plain_name a) (plain_name b) (signed_decimal z) a b z x y n (named_back a ra) (named_back b rb) (amount_back (is_shift op) z h) in
    spells_tail w (m.Imm op) o _ (Known (Some (word_of (instr.OpImm op a b z)))) (spelled.spelled_imm op) (more_tail (plain_name a) _ x (more_tail (plain_name b) (signed_decimal z) y (last_tail (signed_decimal z) n)))
    (three_parts (mnemonic_text (m.Imm op)) (plain_name a) (plain_name b) (signed_decimal z)) (ap (option_map (λ r. with_imm (λ z. instr.OpImm op r.0 r.1 z) r.2)) read) (says_known w (word_of (instr.OpImm op a b z)) e)

spells_branch : (w : ℕ) (op : BranchOp) (a b : ℕ) (z : ℤ) → a < 32 → b < 32 → IsOffset 4096 z → word_of (instr.Branch op a b z) ≡ w → Spells w (regs_number_text (m.Branch op) a b z)
spells_branch w op a b z ra rb h e =
    let x = name_operand a ra in
    let y = name_operand b rb in
    let n = number_operand z (small_branch z h) in
    let back = target_back z (omega (arith, ints, h.0)) (omega (arith, ints, h.1)) in
    let o = plain_name a ++ 44 ∷ 32 ∷ (plain_name b ++ 44 ∷ 32 ∷ signed_decimal z) in
    let read = regs_target_is (plain_name a) (plain_name b) (signed_decimal z) a b (Offset (Some z)) x y n (named_back a ra) (named_back b rb) back in
    spells_tail w (m.Branch op) o _ (Branch op a b (Offset (Some z))) (spelled.spelled_branch op) (more_tail (plain_name a) _ x (more_tail (plain_name b) (signed_decimal z) y (last_tail (signed_decimal z) n)))
    (three_parts (mnemonic_text (m.Branch op)) (plain_name a) (plain_name b) (signed_decimal z)) (ap (option_map (λ r. Branch op r.0 r.1 r.2)) read) (says_branch w op a b z h e)

spells_regs : (w : ℕ) (op : RegOp) (a b c : ℕ) → a < 32 → b < 32 → c < 32 → word_of (instr.Op op a b c) ≡ w → Spells w (regs_text (m.Reg op) a b c)
spells_regs w op a b c ra rb rc e =
    let x = name_operand a ra in
    let y = name_operand b rb in
    let z = name_operand c rc in
    let o = plain_name a ++ 44 ∷ 32 ∷ (plain_name b ++ 44 ∷ 32 ∷ plain_name c) in
    let read = three_regs_is (plain_name a) (plain_name b) (plain_name c) a b c x y z (named_back a ra) (named_back b rb) (named_back c rc) in
    spells_tail w (m.Reg op) o _ (Known (Some (word_of (instr.Op op a b c)))) (spelled.spelled_reg op) (more_tail (plain_name a) _ x (more_tail (plain_name b) (plain_name c) y (last_tail (plain_name c) z)))
    (three_parts (mnemonic_text (m.Reg op)) (plain_name a) (plain_name b) (plain_name c)) (ap (option_map (λ r. Known (Some (word_of (instr.Op op r.0 r.1 r.2))))) read) (says_known w (word_of (instr.Op op a b c)) e)

-- ---- data, and instructions without operands

data_operand : (w : ℕ) → IsOperand (codes "0x" ++ hex_text 8 w)
data_operand w = record { solid = solid_of (codes "0x" ++ hex_text 8 w) (hex_words 8 w); some = omega arith }

spells_data : (w : ℕ) → w < 2 ^ 32 → Spells w (data_text w)
spells_data w l =
    let x = codes "0x" ++ hex_text 8 w in
    let h = data_operand w in
    spells_tail w m.Word x (data_text w) (Known (Some w)) spelled.spelled_word (last_tail x h) refl (one_word_is x w h (word_back w l)) (says_known w w refl)

spells_bare : (w v : ℕ) (text : List ℕ) → list_all is_word text ≡ true → 0 < length text → instruction text ≡ Some (Known (Some v)) → v ≡ w → Spells w text
spells_bare w v text h l is e = record { line = word_line text h l; statement = Some (Known (Some v)); is = is; says = says_known w v e }

spells_fence : (w fields : ℕ) → w < 2 ^ 32 → Spells w (instr_text w (instr.Fence fields))
spells_fence w fields l = elim (cases_Bool (eqb w fence_word)) [
  | inl t ↦ rw (cond-true _ (mnemonic_text m.Fence) (data_text w) t) (spells_bare w fence_word (mnemonic_text m.Fence) refl (omega arith) refl (sym (eqb-true w fence_word t)))
  | inr f ↦ rw (cond-false _ (mnemonic_text m.Fence) (data_text w) f) (spells_data w l)
]

-- ---- each word

spells_instr : (w : ℕ) (i : Instr) → w < 2 ^ 32 → HasRegisters i → Fits i → word_of i ≡ w → Spells w (instr_text w i)
spells_instr w (instr.Lui rd imm) l r f e = spells_field w m.Lui (λ rd n. instr.Lui rd n) rd imm spelled.spelled_lui (λ o. refl) r f e
spells_instr w (instr.Auipc rd imm) l r f e = spells_field w m.Auipc (λ rd n. instr.Auipc rd n) rd imm spelled.spelled_auipc (λ o. refl) r f e
spells_instr w (instr.Jal rd offset) l r f e = spells_jump w rd offset r f e
spells_instr w (instr.Jalr rd rs1 imm) l r f e = spells_address w m.Jalr (λ a b z. instr.Jalr a b z) rd rs1 imm spelled.spelled_jalr (λ o. refl) r.0 r.1 f e
spells_instr w (instr.Branch op rs1 rs2 offset) l r f e = spells_branch w op rs1 rs2 offset r.0 r.1 f e
spells_instr w (instr.Load op rd rs1 imm) l r f e = spells_address w (m.Load op) (λ a b z. instr.Load op a b z) rd rs1 imm (spelled.spelled_load op) (λ o. refl) r.0 r.1 f e
spells_instr w (instr.Store op rs1 rs2 imm) l r f e = spells_address w (m.Store op) (λ a b z. instr.Store op b a z) rs2 rs1 imm (spelled.spelled_store op) (λ o. refl) r.1 r.0 f e
spells_instr w (instr.OpImm op rd rs1 imm) l r f e = spells_imm w op rd rs1 imm r.0 r.1 f e
spells_instr w (instr.Op op rd rs1 rs2) l r f e = spells_regs w op rd rs1 rs2 r.0 r.1 r.2 e
spells_instr w (instr.Fence fields) l r f e = spells_fence w fields l
spells_instr w instr.Ecall l r f e = spells_bare w 0x00000073 (mnemonic_text m.Ecall) refl (omega arith) refl e
spells_instr w instr.Ebreak l r f e = spells_bare w 0x00100073 (mnemonic_text m.Ebreak) refl (omega arith) refl e

spells_from : (w : ℕ) (o : Option Instr) → w < 2 ^ 32 → decoded w ≡ o → Spells w (text_from w o)
spells_from w None l e = spells_data w l
spells_from w (Some i) l e = let fit = decodes_fit w i l e in spells_instr w i l fit.0 fit.1 (word_round_trip w i l e)

-- the text of a word is a line that makes the word
pub spells : (w : ℕ) → w < 2 ^ 32 → Spells w (word_text w)
spells w l = spells_from w (decoded w) l refl
