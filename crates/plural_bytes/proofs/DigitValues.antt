-- Digits, one more at the end.
use Rattle.std.proofs.Common.{◌≡◌, ℕ, suc, ◌+◌, ◌*◌, ◌^◌, ◌<◌, ◌≤◌, true, Option, List, [], ◌∷◌, ◌++◌, length, take, get_or, refl, ap, ◌∙◌, arith}
use Rattle.std.proofs.Math.Nat.{pow-suc, pow-zero, mul-le-mul_right, pow-le-pow_left, pow-le-pow_right}
use Rattle.std.specs.List.{list_all}
use Rattle.std.specs.Char.{digit_value, is_digit}
use Rattle.std.proofs.lemmas.Bool.{lt-ltb, ltb-true, and_from, and_parts}
use Rattle.std.proofs.lemmas.List.{length_push, length-take-le, take_more}
use Rattle.std.proofs.lemmas.List.Folds.{list_all_more}
use Rattle.plural_bytes.specs.Numerals.{value_of, bounded}

power_more : (base n m : ℕ) → m ≡ suc n → base ^ m ≡ base ^ n * base
power_more base n m e = ap (λ k. base ^ k) e ∙ pow-suc base n

joined : (d p e r base : ℕ) → e * (p * base) + (r * base + d) ≡ (e * p + r) * base + d
joined d p e r base = grind arith

-- One more digit at the end counts one, and the others the base as often.
pub value_of_push : (base : ℕ) (ds : List ℕ) (d : ℕ) → value_of base (ds ++ d ∷ []) ≡ value_of base ds * base + digit_value d
value_of_push base [] d = rw (pow-zero base) (omega arith)
value_of_push base (e ∷ ds) d =
    let ih = value_of_push base ds d in
    let k = power_more base (length ds) (length (ds ++ d ∷ [])) (omega (arith, length_push ds d)) in
    rw (ih, k) (joined (digit_value d) (base ^ length ds) (digit_value e) (value_of base ds) base)

-- The bounded value of one more digit.
pub value_more : (base limit : ℕ) (text : List ℕ) (i : ℕ) (v w : Option ℕ) (d : ℕ) → i < length text → d ≡ digit_value (get_or text i 0)
    → ((n : ℕ) → v ≡ bounded limit n → w ≡ bounded limit (n * base + d)) → v ≡ bounded limit (value_of base (take i text))
    → w ≡ bounded limit (value_of base (take (i + 1) text))
value_more base limit text i v w d l e step h =
    let k = take_more text i 0 l in
    let p = value_of_push base (take i text) (get_or text i 0) in
    rw (k, p, ← e) (step _ h)

-- The next byte is a digit below the base.
pub digits_more : (base : ℕ) (text : List ℕ) (i : ℕ) → i < length text → digit_value (get_or text i 0) < base
    → list_all (λ c. is_digit c base) (take i text) ≡ true → list_all (λ c. is_digit c base) (take (i + 1) text) ≡ true
digits_more base text i l below h =
    list_all_more (λ c. is_digit c base) text i 0 l ∙ and_from _ _ h (lt-ltb _ _ below)

one_more : (d v p b : ℕ) → v < p → suc d ≤ b → d * p + v < b * p
one_more d v p b h l = omega (arith, mul-le-mul_right p l)

-- Digits spell less than the base to the power of their number
pub value_below : (base : ℕ) (ds : List ℕ) → list_all (λ c. is_digit c base) ds ≡ true → value_of base ds < base ^ length ds
value_below base [] h = rw (pow-zero base) (omega arith)
value_below base (d ∷ ds) h =
    let p = and_parts (is_digit d base) (list_all (λ c. is_digit c base) ds) h in
    let i = value_below base ds p.1 in
    let k = power_more base (length ds) (suc (length ds)) refl in
    rw (k) (omega (arith, one_more (digit_value d) (value_of base ds) (base ^ length ds) base i (ltb-true (digit_value d) base p.0)))

-- At most fifteen digits of a base up to 16 spell a number that a u64 holds.
pub value_small : (base : ℕ) (ds : List ℕ) → base ≤ 16 → length ds ≤ 15 → list_all (λ c. is_digit c base) ds ≡ true → value_of base ds < 2 ^ 64
value_small base ds b l h =
    let below = value_below base ds h in
    let left = pow-le-pow_left b (length ds) in
    let some : 0 < 16 = omega arith in
    let right : 16 ^ length ds ≤ 16 ^ 15 = pow-le-pow_right some l in
    omega (arith, below, left, right)

-- The value of one more digit.
pub value_next : (base : ℕ) (text : List ℕ) (i d : ℕ) → i < length text → d ≡ digit_value (get_or text i 0) → value_of base (take (i + 1) text) ≡ value_of base (take i text) * base + d
value_next base text i d l e = ap (value_of base) (take_more text i 0 l) ∙ value_of_push base (take i text) (get_or text i 0) ∙ rw e refl

-- A u64 holds one more digit, if there are at most fifteen.
pub next_fits : (base : ℕ) (text : List ℕ) (i v d : ℕ) → base ≤ 16 → i < 15 → i < length text → d ≡ digit_value (get_or text i 0) → d < base
    → v ≡ value_of base (take i text) → list_all (λ c. is_digit c base) (take i text) ≡ true → v * base + d < 2 ^ 64
next_fits base text i v d b few l e below value digits =
    let all = digits_more base text i l (rw e at below) digits in
    let small = value_small base (take (i + 1) text) b (omega (arith, length-take-le (i + 1) text (omega arith))) all in
    let next = value_next base text i d l e in
    rw value (omega (arith, small, next))
