-- The word of an instruction that fits decodes to it.
use Rattle.std.specs.Prelude.{option_map}
use Rattle.std.proofs.Common.{Bool, true, false, ℕ, ◌≡◌, ◌+◌, ◌*◌, ◌/◌, ◌%◌, ◌^◌, ◌<◌, Some, ℤ, pos, negsuc, arith, refl, ap, ◌∙◌}
use Rattle.std.proofs.lemmas.Int.{ints}
use Rattle.plural_isa.specs.Fields.{opcode, rd, funct3, rs1, rs2, funct7, signed, imm_i, imm_s, imm_b, imm_j}
use Rattle.plural_isa.specs.Table.{operation_of, operation_at, code_of, funct3_of, funct7_of, fixed_funct7, is_shift}
use Rattle.plural_isa.specs.Decoding.{decoded, instr_of, amount_or_imm}
use Rattle.plural_isa.specs.Encoding.{bits_of, r_word, i_word, s_word, b_word, u_word, j_word, word_of, IsWithin, IsOffset, IsAmount, Fits, HasRegisters}
use Rattle.plural_isa.specs.declared.table.Operation.TheVariants as o
use Rattle.plural_isa.specs.declared.instr.Instr.{Instr}
use Rattle.plural_isa.specs.declared.instr.Instr.TheVariants as instr
use Rattle.plural_isa.specs.declared.instr.BranchOp.{BranchOp}
use Rattle.plural_isa.specs.declared.instr.LoadOp.{LoadOp}
use Rattle.plural_isa.specs.declared.instr.StoreOp.{StoreOp}
use Rattle.plural_isa.specs.declared.instr.ImmOp.{ImmOp}
use Rattle.plural_isa.specs.declared.instr.RegOp.{RegOp}
use Rattle.plural_isa.proofs.WordFields.{signed-bits_of, bits_of_below, r_fields}
use Rattle.plural_isa.proofs.Rows.{rows_fit, branch_found, load_found, store_found, reg_found, imm_fixed, imm_found, shift_found}

-- what a word with these fields decodes to
by_fields : (w code f3 f7 : ℕ) → opcode w ≡ code → funct3 w ≡ f3 → funct7 w ≡ f7 → decoded w ≡ option_map (λ m. instr_of m w) (operation_at code f3 f7 w)
unfolding operation_of
by_fields w code f3 f7 e f g = rw (e, f, g) refl

b_code : (code f3 x y f : ℕ) → code < 128 → f3 < 8 → x < 32 → y < 32 → f < 8192 → opcode (b_word code f3 x y f) ≡ code
b_code code f3 x y f h g p q r = omega arith

b_funct3 : (code f3 x y f : ℕ) → code < 128 → f3 < 8 → x < 32 → y < 32 → f < 8192 → funct3 (b_word code f3 x y f) ≡ f3
b_funct3 code f3 x y f h g p q r = omega arith

b_rs1 : (code f3 x y f : ℕ) → code < 128 → f3 < 8 → x < 32 → y < 32 → f < 8192 → rs1 (b_word code f3 x y f) ≡ x
b_rs1 code f3 x y f h g p q r = omega arith

b_rs2 : (code f3 x y f : ℕ) → code < 128 → f3 < 8 → x < 32 → y < 32 → f < 8192 → rs2 (b_word code f3 x y f) ≡ y
b_rs2 code f3 x y f h g p q r = omega arith

b_field : (w code f3 x y f : ℕ) → w ≡ b_word code f3 x y f → code < 128 → f3 < 8 → x < 32 → y < 32 → f < 8192 → f % 2 ≡ 0 → w / 2 ^ 31 * 4096 + w / 2 ^ 7 % 2 * 2048 + w / 2 ^ 25 % 64 * 32 + w / 2 ^ 8 % 16 * 2 ≡ f
b_field w code f3 x y f e h g p q r s = omega arith

s_field : (w code f3 x y f : ℕ) → w ≡ s_word code f3 x y f → code < 128 → f3 < 8 → x < 32 → y < 32 → f < 4096 → w / 2 ^ 25 * 32 + w / 2 ^ 7 % 32 ≡ f
s_field w code f3 x y f e h g p q r = omega arith

branch_again : (op : BranchOp) (x y : ℕ) (z : ℤ) → x < 32 → y < 32 → IsOffset 4096 z → decoded (word_of (instr.Branch op x y z)) ≡ Some (instr.Branch op x y z)
branch_again op x y z p q h =
    let code = code_of (o.Branch op) in
    let f3 = funct3_of (o.Branch op) in
    let fit = rows_fit (o.Branch op) in
    let f = bits_of 4096 z in
    let below : f < 8192 = bits_of_below 4096 z (h.0, h.1) in
    let w = b_word code f3 x y f in
    let e1 : rs1 w ≡ x = b_rs1 code f3 x y f fit.0 fit.1 p q below in
    let e2 : rs2 w ≡ y = b_rs2 code f3 x y f fit.0 fit.1 p q below in
    let e3 : imm_b w ≡ z = ap (signed 4096) (b_field w code f3 x y f refl fit.0 fit.1 p q below h.2) ∙ signed-bits_of 4096 z (h.0, h.1) in
    by_fields w code f3 (funct7 w) (b_code code f3 x y f fit.0 fit.1 p q below) (b_funct3 code f3 x y f fit.0 fit.1 p q below) refl
    ∙ ap (option_map (λ m. instr_of m w)) (branch_found op w (funct7 w)) ∙ cc

not_shift : (op : ImmOp) → is_shift op ≡ false → funct7_of (o.Imm op) ≡ 0
not_shift op h = ap fixed_funct7 (imm_fixed op h)

-- the fields of a word of each format
record IFields (w code f3 x y f : ℕ) : Type 0 where
  code_is : opcode w ≡ code
  funct3_is : funct3 w ≡ f3
  rd_is : rd w ≡ x
  rs1_is : rs1 w ≡ y
  field_is : w / 2 ^ 20 ≡ f

i_fields : (w code f3 x y f : ℕ) → w ≡ i_word code f3 x y f → code < 128 → f3 < 8 → x < 32 → y < 32 → f < 4096 → IFields w code f3 x y f
i_fields w code f3 x y f e h g p q r = record {
  code_is = omega arith;
  funct3_is = omega arith;
  rd_is = omega arith;
  rs1_is = omega arith;
  field_is = omega arith;
}

load_again : (op : LoadOp) (x y : ℕ) (z : ℤ) → x < 32 → y < 32 → IsWithin 2048 z → decoded (word_of (instr.Load op x y z)) ≡ Some (instr.Load op x y z)
load_again op x y z p q h =
    let code = code_of (o.Load op) in
    let f3 = funct3_of (o.Load op) in
    let fit = rows_fit (o.Load op) in
    let w = i_word code f3 x y (bits_of 2048 z) in
    let f = i_fields w code f3 x y (bits_of 2048 z) refl fit.0 fit.1 p q (bits_of_below 2048 z h) in
    let e : imm_i w ≡ z = ap (signed 2048) f.field_is ∙ signed-bits_of 2048 z h in
    by_fields w code f3 (funct7 w) f.code_is f.funct3_is refl ∙ ap (option_map (λ m. instr_of m w)) (load_found op w (funct7 w)) ∙ cc

jalr_again : (x y : ℕ) (z : ℤ) → x < 32 → y < 32 → IsWithin 2048 z → decoded (word_of (instr.Jalr x y z)) ≡ Some (instr.Jalr x y z)
jalr_again x y z p q h =
    let w = i_word 0x67 0 x y (bits_of 2048 z) in
    let f = i_fields w 0x67 0 x y (bits_of 2048 z) refl (omega arith) (omega arith) p q (bits_of_below 2048 z h) in
    let e : imm_i w ≡ z = ap (signed 2048) f.field_is ∙ signed-bits_of 2048 z h in
    by_fields w 0x67 0 (funct7 w) f.code_is f.funct3_is refl ∙ cc

-- what the word of an operation on an immediate decodes to, whether it shifts or not
imm_decoded : (op : ImmOp) (b : Bool) (x y w : ℕ) (z : ℤ) → is_shift op ≡ b → rd w ≡ x → rs1 w ≡ y → amount_or_imm b w ≡ z → instr_of (o.Imm op) w ≡ instr.OpImm op x y z
imm_decoded op b x y w z s e f g = rw (s, e, f, g) refl

imm_again : (op : ImmOp) (b : Bool) (x y : ℕ) (z : ℤ) → is_shift op ≡ b → x < 32 → y < 32 → IsAmount b z → decoded (word_of (instr.OpImm op x y z)) ≡ Some (instr.OpImm op x y z)
imm_again op false x y z s p q h =
    let code = code_of (o.Imm op) in
    let f3 = funct3_of (o.Imm op) in
    let fit = rows_fit (o.Imm op) in
    let w = i_word code f3 x y (bits_of 2048 z + 32 * funct7_of (o.Imm op)) in
    let g : w ≡ i_word code f3 x y (bits_of 2048 z) = omega (arith, not_shift op s) in
    let f = i_fields w code f3 x y (bits_of 2048 z) g fit.0 fit.1 p q (bits_of_below 2048 z h) in
    let e : imm_i w ≡ z = ap (signed 2048) f.field_is ∙ signed-bits_of 2048 z h in
    by_fields w code f3 (funct7 w) f.code_is f.funct3_is refl
    ∙ ap (option_map (λ m. instr_of m w)) (imm_found op w (funct7 w) s)
    ∙ ap (λ (i : Instr). Some i) (imm_decoded op false x y w z s f.rd_is f.rs1_is e)
imm_again op true x y (negsuc n) s p q h = absurd (omega (arith, ints))
imm_again op true x y (pos n) s p q h =
    let small : n < 32 = omega (arith, ints) in
    let code = code_of (o.Imm op) in
    let f3 = funct3_of (o.Imm op) in
    let f7 = funct7_of (o.Imm op) in
    let fit = rows_fit (o.Imm op) in
    let w = i_word code f3 x y (n + 32 * f7) in
    let f = i_fields w code f3 x y (n + 32 * f7) refl fit.0 fit.1 p q (omega (arith, fit.2)) in
    let amount : rs2 w ≡ n = omega (arith, f.field_is) in
    let funct7_equal : funct7 w ≡ f7 = omega (arith, f.field_is, fit.2) in
    by_fields w code f3 f7 f.code_is f.funct3_is funct7_equal
    ∙ ap (option_map (λ m. instr_of m w)) (shift_found op w s)
    ∙ ap (λ (i : Instr). Some i) (imm_decoded op true x y w (pos n) s f.rd_is f.rs1_is (ap pos amount))

store_again : (op : StoreOp) (x y : ℕ) (z : ℤ) → x < 32 → y < 32 → IsWithin 2048 z → decoded (word_of (instr.Store op x y z)) ≡ Some (instr.Store op x y z)
store_again op x y z p q h =
    let code = code_of (o.Store op) in
    let f3 = funct3_of (o.Store op) in
    let fit = rows_fit (o.Store op) in
    let n = bits_of 2048 z in
    let below : n < 4096 = bits_of_below 2048 z h in
    let w = s_word code f3 x y n in
    let f = r_fields code f3 (n / 32) (n % 32) x y fit.0 fit.1 (omega arith) (omega arith) p q in
    let g : w / 2 ^ 25 * 32 + w / 2 ^ 7 % 32 ≡ n = s_field w code f3 x y n refl fit.0 fit.1 p q below in
    let e : imm_s w ≡ z = ap (signed 2048) g ∙ signed-bits_of 2048 z h in
    by_fields w code f3 (funct7 w) f.code_is f.funct3_is refl ∙ ap (option_map (λ m. instr_of m w)) (store_found op w (funct7 w)) ∙ cc

reg_again : (op : RegOp) (x y z : ℕ) → x < 32 → y < 32 → z < 32 → decoded (word_of (instr.Op op x y z)) ≡ Some (instr.Op op x y z)
reg_again op x y z p q r =
    let code = code_of (o.Reg op) in
    let f3 = funct3_of (o.Reg op) in
    let f7 = funct7_of (o.Reg op) in
    let fit = rows_fit (o.Reg op) in
    let w = r_word code f3 f7 x y z in
    let f = r_fields code f3 f7 x y z fit.0 fit.1 fit.2 p q r in
    by_fields w code f3 f7 f.code_is f.funct3_is f.funct7_is ∙ ap (option_map (λ m. instr_of m w)) (reg_found op w) ∙ cc

lui_again : (x n : ℕ) → x < 32 → n < 1048576 → decoded (word_of (instr.Lui x n)) ≡ Some (instr.Lui x n)
lui_again x n p q =
    let w = u_word 0x37 x n in
    let e : rd w ≡ x = omega arith in
    let f : w / 2 ^ 12 ≡ n = omega arith in
    by_fields w 0x37 (funct3 w) (funct7 w) (omega arith) refl refl ∙ cc

auipc_again : (x n : ℕ) → x < 32 → n < 1048576 → decoded (word_of (instr.Auipc x n)) ≡ Some (instr.Auipc x n)
auipc_again x n p q =
    let w = u_word 0x17 x n in
    let e : rd w ≡ x = omega arith in
    let f : w / 2 ^ 12 ≡ n = omega arith in
    by_fields w 0x17 (funct3 w) (funct7 w) (omega arith) refl refl ∙ cc

j_field : (w x f : ℕ) → w ≡ j_word 0x6F x f → x < 32 → f < 2097152 → f % 2 ≡ 0 → w / 2 ^ 31 * 1048576 + w / 2 ^ 12 % 256 * 4096 + w / 2 ^ 20 % 2 * 2048 + w / 2 ^ 21 % 1024 * 2 ≡ f
j_field w x f e p q r = omega arith

jal_again : (x : ℕ) (z : ℤ) → x < 32 → IsOffset 1048576 z → decoded (word_of (instr.Jal x z)) ≡ Some (instr.Jal x z)
jal_again x z p h =
    let n = bits_of 1048576 z in
    let below : n < 2097152 = bits_of_below 1048576 z (h.0, h.1) in
    let w = j_word 0x6F x n in
    let e : rd w ≡ x = omega arith in
    let f : imm_j w ≡ z = ap (signed 1048576) (j_field w x n refl p below h.2) ∙ signed-bits_of 1048576 z (h.0, h.1) in
    by_fields w 0x6F (funct3 w) (funct7 w) (omega arith) refl refl ∙ cc

fence_again : (n : ℕ) → n < 4194304 → decoded (word_of (instr.Fence n)) ≡ Some (instr.Fence n)
fence_again n p =
    let w = word_of (instr.Fence n) in
    let e : w / 2 ^ 15 * 32 + w / 2 ^ 7 % 32 ≡ n = omega arith in
    by_fields w 0x0F 0 (funct7 w) (omega arith) (omega arith) refl ∙ cc

decodes_ecall : decoded 0x00000073 ≡ Some instr.Ecall
unfolding operation_of
decodes_ecall = refl

decodes_ebreak : decoded 0x00100073 ≡ Some instr.Ebreak
unfolding operation_of
decodes_ebreak = refl

-- The word of an instruction that fits decodes to it.
pub instr_round_trip : (i : Instr) → HasRegisters i → Fits i → decoded (word_of i) ≡ Some i
instr_round_trip (instr.Lui x n) h f = lui_again x n h f
instr_round_trip (instr.Auipc x n) h f = auipc_again x n h f
instr_round_trip (instr.Jal x z) h f = jal_again x z h f
instr_round_trip (instr.Jalr x y z) h f = jalr_again x y z h.0 h.1 f
instr_round_trip (instr.Branch op x y z) h f = branch_again op x y z h.0 h.1 f
instr_round_trip (instr.Load op x y z) h f = load_again op x y z h.0 h.1 f
instr_round_trip (instr.Store op x y z) h f = store_again op x y z h.0 h.1 f
instr_round_trip (instr.OpImm op x y z) h f = imm_again op (is_shift op) x y z refl h.0 h.1 f
instr_round_trip (instr.Op op x y z) h f = reg_again op x y z h.0 h.1 h.2
instr_round_trip (instr.Fence n) h f = fence_again n f
instr_round_trip instr.Ecall h f = decodes_ecall
instr_round_trip instr.Ebreak h f = decodes_ebreak
