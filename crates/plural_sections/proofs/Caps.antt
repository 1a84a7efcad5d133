-- The cap of a number by what reading answers.
use Rattle.std.proofs.Common.{◌≡◌, ℕ, ◌<◌, ◌≤◌, Bool, true, false, cond, leb, Option, Some, None, Ok, Err, min, refl, ap, ◌∙◌, arith}
use Rattle.std.specs.Prelude.{option_map, nat_le, decimal}
use Rattle.std.proofs.lemmas.Bool.{leb-true, leb-false, and_parts}
use Rattle.plural_bytes.specs.declared.numerals.NumberError.TheVariants.{Form, Range}
use Rattle.plural_bytes.specs.Numerals.{within}
use Rattle.plural_bytes.proofs.Decimals.{numeral_back}
use Rattle.plural_sections.specs.Numbers.{capped_numeral, is_within}

-- A number that is within the limit is its own cap.
pub capped_ok : (o : Option ℕ) (n : ℕ) → Ok n ≡ within 4294967295 o → Some n ≡ option_map (λ n. min n 4294967296) o
capped_ok None n e = absurd cc
capped_ok (Some m) n e = by (leb m 4294967295) refl e
  where
    by : (b : Bool) → leb m 4294967295 ≡ b → Ok n ≡ cond b (Ok m) (Err Range) → Some n ≡ Some (min m 4294967296)
    by true t h = let same : n ≡ m = cc in let low = leb-true m 4294967295 t in ap (λ (x : ℕ). Some x) (same ∙ omega (arith, low))
    by false t h = absurd cc

-- One above it has the cap.
pub capped_range : (o : Option ℕ) → Err Range ≡ within 4294967295 o → Some 4294967296 ≡ option_map (λ n. min n 4294967296) o
capped_range None e = absurd cc
capped_range (Some m) e = by (leb m 4294967295) refl e
  where
    by : (b : Bool) → leb m 4294967295 ≡ b → Err Range ≡ cond b (Ok m) (Err Range) → Some 4294967296 ≡ Some (min m 4294967296)
    by true t h = absurd cc
    by false t h = let high = leb-false m 4294967295 t in ap (λ (x : ℕ). Some x) (omega (arith, high))

-- And what is no numeral has none.
pub capped_form : (o : Option ℕ) → Err Form ≡ within 4294967295 o → None ≡ option_map (λ n. min n 4294967296) o
capped_form None e = refl
capped_form (Some m) e = by (leb m 4294967295) e
  where
    by : (b : Bool) → Err Form ≡ cond b (Ok m) (Err Range) → None ≡ Some (min m 4294967296)
    by true h = absurd cc
    by false h = absurd cc

-- A printed number below 2^32 is read as itself.
pub capped_back : (n : ℕ) → n < 4294967296 → capped_numeral (decimal n) ≡ Some n
capped_back n small = ap (option_map (λ m. min m 4294967296)) (numeral_back n (omega arith)) ∙ ap (λ (m : ℕ). Some m) (let e : min n 4294967296 ≡ n = omega arith in e)

-- A number that is within two lies between them.
pub within_bounds : (low high n : ℕ) → is_within low high n ≡ true → (low ≤ n) × (n ≤ high)
within_bounds low high n e = (leb-true low n (and_parts (nat_le low n) (nat_le n high) e).0, leb-true n high (and_parts (nat_le low n) (nat_le n high) e).1)
