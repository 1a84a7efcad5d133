-- A token that is no word.
use Rattle.std.proofs.Common.{◌≡◌, ℕ, ◌^◌, Bool, true, false, cond, ltb, List, length, Some, None, Ok, Err, refl, arith, ◌∙◌}
use Rattle.std.specs.List.{list_all}
use Rattle.std.specs.Char.{is_digit}
use Rattle.std.proofs.lemmas.Bool.{and_parts, eq-eqb, le-leb}
use Rattle.plural_bytes.specs.declared.numerals.NumberError.{NumberError}
use Rattle.plural_bytes.specs.Numerals.{spelled, value_of, are_digits, within}
use Rattle.plural_bytes.proofs.DigitValues.{value_below}
use Rattle.plural_sections.specs.Numbers.{word_token}

no_range : (t : List ℕ) (b : Bool) (e : NumberError) → are_digits 16 t ≡ b → length t ≡ 8 → Err e ≡ within 4294967295 (cond b (Some (value_of 16 t)) None) → None ≡ cond b (Some (value_of 16 t)) None
no_range t true e d len h =
    let below = value_below 16 t (and_parts (ltb 0 (length t)) (list_all (λ c. is_digit c 16) t) d).1 in
    let p : 16 ^ length t ≡ 4294967296 = rw len refl in
    let fits = le-leb (value_of 16 t) 4294967295 (omega (arith, below, p)) in
    let g : Err e ≡ Ok (value_of 16 t) = h ∙ rw fits refl in
    absurd cc
no_range t false e d len h = refl

-- Eight bytes that no word is read from are no word.
pub word_none : (t : List ℕ) (e : NumberError) → length t ≡ 8 → Err e ≡ within 4294967295 (spelled 16 t) → None ≡ word_token t
word_none t e len h = rw (eq-eqb (length t) 8 len) (no_range t (are_digits 16 t) e refl len h)
