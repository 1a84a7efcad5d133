-- A word that decodes is the word of its instruction.
use Rattle.std.specs.Prelude.{option_map}
use Rattle.std.proofs.Common.{ℕ, ◌≡◌, ◌+◌, ◌*◌, ◌/◌, ◌^◌, ◌<◌, Bool, true, false, cond, ◌&&◌, eqb, List, [], ◌∷◌, Some, None, find, arith, refl, sym, ap, subst}
use Rattle.std.proofs.lemmas.Bool.Decides.{nat_tests}
use Rattle.plural_isa.specs.Fields.{opcode, rd, funct3, rs1, rs2, funct7, imm_b, imm_s, imm_j}
use Rattle.plural_isa.specs.Table.{row_of, has_fixed, is_row_of, operation_of, operations, code_of, funct3_of, funct7_of, fixed_funct7, is_shift}
use Rattle.plural_isa.specs.Decoding.{decoded, instr_of, amount_or_imm}
use Rattle.plural_isa.specs.Encoding.{bits_of, i_word, s_word, b_word, j_word, word_of}
use Rattle.plural_isa.specs.declared.table.Operation.{Operation}
use Rattle.plural_isa.specs.declared.table.Operation.TheVariants as o
use Rattle.plural_isa.specs.declared.table.Fixed.TheVariants.{Funct3, Funct3And7}
use Rattle.plural_isa.specs.declared.instr.ImmOp.{ImmOp}
use Rattle.plural_isa.specs.declared.instr.Instr.{Instr}
use Rattle.plural_isa.proofs.WordFields.{bits_of-signed, at_i, at_shift, at_r, at_u, at_fence, s_imm, s_again, b_imm, b_again, j_imm, j_again}
use Rattle.plural_isa.proofs.Rows.{branch_fixed, load_fixed, store_fixed, reg_fixed, imm_fixed, shift_fixed}

both : (a b : Bool) → (a && b) ≡ true → (a ≡ true) × (b ≡ true)
both true b h = (refl, h)
both false b h = cc

is_eq : (a b : ℕ) → eqb a b ≡ true → a ≡ b
is_eq a b h = grind (arith, nat_tests)

-- a word that has an operation's row has its opcode
code_is : (w : ℕ) (m : Operation) → is_row_of m w ≡ true → opcode w ≡ code_of m
code_is w m h = is_eq _ _ (both (eqb (opcode w) (code_of m)) (has_fixed (funct3 w) (funct7 w) w (row_of m).fixed) h).0

fixed_is : (w : ℕ) (m : Operation) → is_row_of m w ≡ true → has_fixed (funct3 w) (funct7 w) w (row_of m).fixed ≡ true
fixed_is w m h = (both (eqb (opcode w) (code_of m)) (has_fixed (funct3 w) (funct7 w) w (row_of m).fixed) h).1

-- and the funct3 that the row fixes
funct3_is : (w : ℕ) (m : Operation) (f3 : ℕ) → (row_of m).fixed ≡ Funct3 f3 → is_row_of m w ≡ true → funct3 w ≡ f3
funct3_is w m f3 e h = is_eq _ _ (subst (λ f. has_fixed (funct3 w) (funct7 w) w f ≡ true) e (fixed_is w m h))

-- and the funct3 and the funct7 that the row fixes
functs_are : (w : ℕ) (m : Operation) (f3 f7 : ℕ) → (row_of m).fixed ≡ Funct3And7 f3 f7 → is_row_of m w ≡ true → (funct3 w ≡ f3) × (funct7 w ≡ f7)
functs_are w m f3 f7 e h =
    let b = both (eqb (funct3 w) f3) (eqb (funct7 w) f7) (subst (λ f. has_fixed (funct3 w) (funct7 w) w f ≡ true) e (fixed_is w m h)) in
    (is_eq _ _ b.0, is_eq _ _ b.1)

b_back : (w code f3 : ℕ) → w < 2 ^ 32 → opcode w ≡ code → funct3 w ≡ f3 → b_word code f3 (rs1 w) (rs2 w) (bits_of 4096 (imm_b w)) ≡ w
b_back w code f3 h e f = rw (bits_of-signed 4096 _ (b_imm w h)) (rw (← e, ← f) (b_again w h))

s_back : (w code f3 : ℕ) → w < 2 ^ 32 → opcode w ≡ code → funct3 w ≡ f3 → s_word code f3 (rs1 w) (rs2 w) (bits_of 2048 (imm_s w)) ≡ w
s_back w code f3 h e f = rw (bits_of-signed 2048 _ (s_imm w h)) (rw (← e, ← f) (s_again w h))

j_back : (w code : ℕ) → w < 2 ^ 32 → opcode w ≡ code → j_word code (rd w) (bits_of 1048576 (imm_j w)) ≡ w
j_back w code h e = rw (bits_of-signed 1048576 _ (j_imm w h)) (rw (← e) (j_again w h))

imm_back : (op : ImmOp) (b : Bool) (w : ℕ) → is_shift op ≡ b → w < 2 ^ 32 → is_row_of (o.Imm op) w ≡ true
    → i_word (code_of (o.Imm op)) (funct3_of (o.Imm op)) (rd w) (rs1 w) (bits_of 2048 (amount_or_imm b w) + 32 * funct7_of (o.Imm op)) ≡ w
imm_back op true w s h p =
    let e = functs_are w (o.Imm op) _ _ (shift_fixed op s) p in
    at_shift w (code_of (o.Imm op)) (funct3_of (o.Imm op)) (funct7_of (o.Imm op)) h (code_is w (o.Imm op) p) e.0 e.1
imm_back op false w s h p =
    let z : funct7_of (o.Imm op) ≡ 0 = ap fixed_funct7 (imm_fixed op s) in
    let b = bits_of-signed 2048 (w / 2 ^ 20) (omega arith) in
    at_i w (code_of (o.Imm op)) (funct3_of (o.Imm op)) _ h (code_is w (o.Imm op) p) (funct3_is w (o.Imm op) _ (imm_fixed op s) p) (omega (arith, b, z))

-- The word of an operation's instruction, with the fields of a word that has the operation's row, is that word.
pub row_back : (m : Operation) (w : ℕ) → w < 2 ^ 32 → is_row_of m w ≡ true → word_of (instr_of m w) ≡ w
row_back o.Lui w h p = at_u w 0x37 h (code_is w o.Lui p)
row_back o.Auipc w h p = at_u w 0x17 h (code_is w o.Auipc p)
row_back o.Jal w h p = j_back w 0x6F h (code_is w o.Jal p)
row_back o.Jalr w h p = at_i w 0x67 0 _ h (code_is w o.Jalr p) (funct3_is w o.Jalr 0 refl p) (bits_of-signed 2048 (w / 2 ^ 20) (omega arith))
row_back (o.Branch op) w h p = b_back w _ _ h (code_is w (o.Branch op) p) (funct3_is w (o.Branch op) _ (branch_fixed op) p)
row_back (o.Load op) w h p = at_i w (code_of (o.Load op)) (funct3_of (o.Load op)) _ h (code_is w (o.Load op) p) (funct3_is w (o.Load op) _ (load_fixed op) p) (bits_of-signed 2048 (w / 2 ^ 20) (omega arith))
row_back (o.Store op) w h p = s_back w _ _ h (code_is w (o.Store op) p) (funct3_is w (o.Store op) _ (store_fixed op) p)
row_back (o.Imm op) w h p = imm_back op (is_shift op) w refl h p
row_back (o.Reg op) w h p =
    let e = functs_are w (o.Reg op) _ _ (reg_fixed op) p in
    at_r w (code_of (o.Reg op)) (funct3_of (o.Reg op)) (funct7_of (o.Reg op)) h (code_is w (o.Reg op) p) e.0 e.1
row_back o.Fence w h p = at_fence w h (code_is w o.Fence p) (funct3_is w o.Fence 0 refl p)
row_back o.Ecall w h p = sym (is_eq _ _ (fixed_is w o.Ecall p))
row_back o.Ebreak w h p = sym (is_eq _ _ (fixed_is w o.Ebreak p))

found : (w : ℕ) (ms : List Operation) (m : Operation) → w < 2 ^ 32 → find (λ n. is_row_of n w) ms ≡ Some m → word_of (instr_of m w) ≡ w
found w [] m h e = cc
found w (x ∷ xs) m h e =
    elim (is_row_of x w) as (λ b. is_row_of x w ≡ b → cond b (Some x) (find (λ n. is_row_of n w) xs) ≡ Some m → word_of (instr_of m w) ≡ w) [
      | true ↦ (λ p q. let s : x ≡ m = cc in subst (λ (y : Operation). word_of (instr_of y w) ≡ w) s (row_back x w h p))
      | false ↦ (λ p q. found w xs m h q)
    ] refl e

-- A word that decodes is the word of its instruction.
pub word_round_trip : (w : ℕ) (i : Instr) → w < 2 ^ 32 → decoded w ≡ Some i → word_of i ≡ w
unfolding operation_of
word_round_trip w i h e =
    elim (operation_of w) as (λ q. operation_of w ≡ q → option_map (λ m. instr_of m w) q ≡ Some i → word_of i ≡ w) [
      | None ↦ (λ p q. cc)
      | Some m ↦ (λ p q. let s : instr_of m w ≡ i = cc in subst (λ (j : Instr). word_of j ≡ w) s (found w operations m h p))
    ] refl e
