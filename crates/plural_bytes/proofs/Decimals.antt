-- Decimal digits that are written are read again.
use Rattle.std.proofs.Common.{◌≡◌, ℕ, ◌+◌, ◌/◌, ◌%◌, ◌^◌, ◌<◌, ◌≤◌, Bool, true, false, eqb, leb, Some, List, [], ◌∷◌, ◌++◌, length, refl, ◌∙◌, arith}
use Rattle.std.specs.Prelude.{decimal, nat_eq, not, ◌&&◌, codes}
use Rattle.std.specs.List.{list_all, starts_with}
use Rattle.std.specs.Char.{digit_value, is_digit, is_ascii_digit}
use Rattle.std.proofs.lemmas.Fmt.{decimal_by_steps, decimal_nonempty}
use Rattle.std.proofs.lemmas.Bool.{agree_below_at, eqb-true, leb-true, lt-ltb, ne_eqb, or_from, not_from_false, and_from, and_parts, and_left, and_right}
use Rattle.std.proofs.lemmas.List.Folds.{list_all-append}
use Rattle.std.proofs.lemmas.Str.{digit_value_digit}
use Rattle.plural_base.proofs.ListTests.{list_all_weaker}
use Rattle.plural_bytes.specs.Lines.{is_blank}
use Rattle.plural_bytes.specs.Words.{is_one_word}
use Rattle.plural_bytes.specs.Numerals.{value_of, spelled, numeral}
use Rattle.plural_bytes.proofs.DigitValues.{value_of_push}

-- Each digit of a number passes what the ten digits pass.
pub all_decimal : (p : ℕ → Bool) → ((d : ℕ) → d < 10 → p (48 + d) ≡ true) → (n : ℕ) → n < 2 ^ 64 → list_all p (decimal n) ≡ true
all_decimal p h n small = decimal_by_steps (λ m ds. list_all p ds ≡ true) (λ m l. and_from _ _ (h m l) refl) (λ m ds l i. list_all-append p ds ((48 + m % 10) ∷ []) ∙ and_from _ _ i (and_from _ _ (h (m % 10) (omega arith)) refl)) n small

digit_value_of : (d : ℕ) → d < 10 → digit_value (48 + d) ≡ d
digit_value_of d l = eqb-true _ _ (agree_below_at (λ d. eqb (digit_value (48 + d)) d) (λ d. true) 10 d refl l)

-- The digits of a number spell it.
value_back : (n : ℕ) → n < 2 ^ 64 → value_of 10 (decimal n) ≡ n
value_back n small = decimal_by_steps (λ m ds. value_of 10 ds ≡ m) one more n small
  where
    one : (m : ℕ) → m < 10 → value_of 10 ((48 + m) ∷ []) ≡ m
    one m l = let v = digit_value_of m l in rw v (omega arith)

    more : (m : ℕ) (ds : List ℕ) → 10 ≤ m → value_of 10 ds ≡ m / 10 → value_of 10 (ds ++ (48 + m % 10) ∷ []) ≡ m
    more m ds l i =
        let v = digit_value_of (m % 10) (omega arith) in
        value_of_push 10 ds (48 + m % 10) ∙ rw (i, v) (omega arith)

numeric : (n : ℕ) → n < 2 ^ 64 → list_all is_ascii_digit (decimal n) ≡ true
numeric n small = all_decimal is_ascii_digit (λ d l. agree_below_at (λ d. is_ascii_digit (48 + d)) (λ d. true) 10 d refl l) n small

-- A text of digits begins with no sign.
minus_apart : (ds : List ℕ) → list_all is_ascii_digit ds ≡ true → starts_with nat_eq ds (codes "-") ≡ false
minus_apart [] h = refl
minus_apart (c ∷ cs) h =
    let p = and_parts (is_ascii_digit c) (list_all is_ascii_digit cs) h in
    let l : 48 ≤ c = leb-true 48 c (and_parts (leb 48 c) (leb c 57) p.0).0 in
    let e : eqb 45 c ≡ false = ne_eqb 45 c (λ e. omega arith) in
    and_left (eqb 45 c) true e

-- The digits of a number begin with no sign.
pub no_sign : (n : ℕ) → n < 2 ^ 64 → starts_with nat_eq (decimal n) (codes "-") ≡ false
no_sign n small = minus_apart (decimal n) (numeric n small)

-- A text of digits is no hexadecimal numeral.
no_prefix : (ds : List ℕ) → list_all is_ascii_digit ds ≡ true → starts_with nat_eq ds (codes "0x") ≡ false
no_prefix [] h = refl
no_prefix (c ∷ []) h = and_right (eqb 48 c) false refl
no_prefix (c ∷ d ∷ ds) h =
    let p = and_parts (is_ascii_digit c) (list_all is_ascii_digit (d ∷ ds)) h in
    let q = and_parts (is_ascii_digit d) (list_all is_ascii_digit ds) p.1 in
    let l : d ≤ 57 = leb-true d 57 (and_parts (leb 48 d) (leb d 57) q.0).1 in
    let e : eqb 120 d ≡ false = ne_eqb 120 d (λ e. omega arith) in
    and_right (eqb 48 c) (eqb 120 d && true) (and_left (eqb 120 d) true e)

spelled_back : (n : ℕ) → n < 2 ^ 64 → spelled 10 (decimal n) ≡ Some n
spelled_back n small =
    let some = lt-ltb 0 (length (decimal n)) (decimal_nonempty n small) in
    let digits = all_decimal (λ c. is_digit c 10) (λ d l. agree_below_at (λ d. is_digit (48 + d) 10) (λ d. true) 10 d refl l) n small in
    rw (and_from _ _ some digits, value_back n small) refl

-- The decimal digits of a number are the numeral of that number.
pub numeral_back : (n : ℕ) → n < 2 ^ 64 → numeral (decimal n) ≡ Some n
numeral_back n small = rw (no_prefix (decimal n) (numeric n small)) (spelled_back n small)

-- ---- any decimal digits

-- The value of a decimal digit.
pub digit_is : (c : ℕ) → is_ascii_digit c ≡ true → (digit_value c + 48 ≡ c) × (digit_value c < 10)
digit_is c h =
    let p = and_parts (leb 48 c) (leb c 57) h in
    let low : 48 ≤ c = leb-true 48 c p.0 in
    let high : c ≤ 57 = leb-true c 57 p.1 in
    let e = digit_value_digit c (low, high) in
    (e, omega (arith, e, high))

counts : (c : ℕ) → is_ascii_digit c ≡ true → is_digit c 10 ≡ true
counts c h = lt-ltb (digit_value c) 10 (digit_is c h).1

-- Each of some decimal digits is a digit of base 10.
pub all_count : (ds : List ℕ) → list_all is_ascii_digit ds ≡ true → list_all (λ c. is_digit c 10) ds ≡ true
all_count ds h = list_all_weaker is_ascii_digit (λ c. is_digit c 10) counts ds h

full : (c : ℕ) → is_ascii_digit c ≡ true → not (is_blank c) ≡ true
full c h =
    let low : 48 ≤ c = leb-true 48 c (and_parts (leb 48 c) (leb c 57) h).0 in
    not_from_false (is_blank c) (or_from (eqb c 32) (eqb c 9) (ne_eqb c 32 (λ e. omega arith)) (ne_eqb c 9 (λ e. omega arith)))

-- Some decimal digits are one word.
pub digits_word : (ds : List ℕ) → 0 < length ds → list_all is_ascii_digit ds ≡ true → is_one_word ds ≡ true
digits_word ds some h = and_from _ _ (lt-ltb 0 (length ds) some) (list_all_weaker is_ascii_digit (λ c. not (is_blank c)) full ds h)

-- They are the numeral of what they spell.
pub digits_numeral : (ds : List ℕ) → 0 < length ds → list_all is_ascii_digit ds ≡ true → numeral ds ≡ Some (value_of 10 ds)
digits_numeral ds some h = rw (no_prefix ds h, and_from _ _ (lt-ltb 0 (length ds) some) (all_count ds h)) refl
