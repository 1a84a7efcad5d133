-- What decodes fits.
use Rattle.std.specs.Prelude.{option_map}
use Rattle.std.proofs.Common.{ℕ, ◌≡◌, ◌*◌, ◌/◌, ◌%◌, ◌^◌, ◌<◌, Bool, true, false, Some, None, arith, subst}
use Rattle.std.proofs.lemmas.Int.{ints}
use Rattle.std.proofs.lemmas.Bool.Decides.{nat_tests}
use Rattle.plural_isa.specs.Fields.{signed, imm_i, imm_s, imm_b, imm_j}
use Rattle.plural_isa.specs.Table.{operation_of, is_shift}
use Rattle.plural_isa.specs.Decoding.{decoded, instr_of, amount_or_imm}
use Rattle.plural_isa.specs.Encoding.{IsWithin, IsOffset, IsAmount, Fits, HasRegisters}
use Rattle.plural_isa.specs.declared.table.Operation.{Operation}
use Rattle.plural_isa.specs.declared.table.Operation.TheVariants as o
use Rattle.plural_isa.specs.declared.instr.Instr.{Instr}
use Rattle.plural_isa.proofs.WordFields.{bits_of-signed, s_imm, b_imm, j_imm}

signed_within : (half n : ℕ) → n < 2 * half → IsWithin half (signed half n)
signed_within half n h = (grind (arith, ints, nat_tests), grind (arith, ints, nat_tests))

offset_within : (half n : ℕ) → n < 2 * half → n % 2 ≡ 0 → IsOffset half (signed half n)
offset_within half n h e = let w = signed_within half n h in (w.0, w.1, rw (bits_of-signed half n h) e)

i_fits : (w : ℕ) → w < 2 ^ 32 → IsWithin 2048 (imm_i w)
i_fits w h = signed_within 2048 (w / 2 ^ 20) (omega arith)

s_fits : (w : ℕ) → w < 2 ^ 32 → IsWithin 2048 (imm_s w)
s_fits w h = signed_within 2048 _ (s_imm w h)

b_fits : (w : ℕ) → w < 2 ^ 32 → IsOffset 4096 (imm_b w)
b_fits w h = offset_within 4096 _ (b_imm w h) (omega arith)

j_fits : (w : ℕ) → w < 2 ^ 32 → IsOffset 1048576 (imm_j w)
j_fits w h = offset_within 1048576 _ (j_imm w h) (omega arith)

low : (n : ℕ) → n % 32 < 32
low n = omega arith

imm_fits : (b : Bool) (w : ℕ) → w < 2 ^ 32 → IsAmount b (amount_or_imm b w)
imm_fits true w h = (omega (arith, ints), omega (arith, ints))
imm_fits false w h = i_fits w h

-- The instruction of an operation, with the fields of a word, has registers, and fits.
pub fits_of : (m : Operation) (w : ℕ) → w < 2 ^ 32 → HasRegisters (instr_of m w) × Fits (instr_of m w)
fits_of o.Lui w h = (low _, omega arith)
fits_of o.Auipc w h = (low _, omega arith)
fits_of o.Jal w h = (low _, j_fits w h)
fits_of o.Jalr w h = ((low _, low _), i_fits w h)
fits_of (o.Branch op) w h = ((low _, low _), b_fits w h)
fits_of (o.Load op) w h = ((low _, low _), i_fits w h)
fits_of (o.Store op) w h = ((low _, low _), s_fits w h)
fits_of (o.Imm op) w h = ((low _, low _), imm_fits (is_shift op) w h)
fits_of (o.Reg op) w h = ((low _, low _, low _), tt)
fits_of o.Fence w h = (tt, omega arith)
fits_of o.Ecall w h = (tt, tt)
fits_of o.Ebreak w h = (tt, tt)

-- The instruction that a word decodes to has registers, and fits.
pub decodes_fit : (w : ℕ) (i : Instr) → w < 2 ^ 32 → decoded w ≡ Some i → HasRegisters i × Fits i
decodes_fit w i h e =
    elim (operation_of w) as (λ q. option_map (λ m. instr_of m w) q ≡ Some i → HasRegisters i × Fits i) [
      | None ↦ (λ q. cc)
      | Some m ↦ (λ q. let s : instr_of m w ≡ i = cc in subst (λ (j : Instr). HasRegisters j × Fits j) s (fits_of m w h))
    ] e
