-- Hexadecimal digits that are written are read again.
use Rattle.std.proofs.Common.{◌≡◌, ℕ, zero, suc, ◌*◌, ◌/◌, ◌%◌, ◌^◌, ◌<◌, Bool, true, eqb, [], ◌∷◌, refl, ◌∙◌, arith}
use Rattle.std.specs.List.{list_all}
use Rattle.std.specs.Char.{digit_value, is_digit}
use Rattle.std.proofs.Math.Nat.{pow-suc}
use Rattle.std.proofs.lemmas.Bool.{agree_below_at, eqb-true, and_from}
use Rattle.std.proofs.lemmas.List.Folds.{list_all-append}
use Rattle.plural_bytes.specs.Numerals.{value_of}
use Rattle.plural_bytes.specs.Hexadecimal.{hex_digit, hex_text}
use Rattle.plural_bytes.proofs.DigitValues.{value_of_push}

digit_back : (d : ℕ) → d < 16 → digit_value (hex_digit d) ≡ d
digit_back d l = eqb-true _ _ (agree_below_at (λ d. eqb (digit_value (hex_digit d)) d) (λ d. true) 16 d refl l)

-- Each digit of a number passes what the sixteen digits pass.
pub all_hex : (p : ℕ → Bool) → ((d : ℕ) → d < 16 → p (hex_digit d) ≡ true) → (k n : ℕ) → list_all p (hex_text k n) ≡ true
all_hex p h zero n = refl
all_hex p h (suc k) n = list_all-append p (hex_text k (n / 16)) (hex_digit (n % 16) ∷ []) ∙ and_from _ _ (all_hex p h k (n / 16)) (and_from _ _ (h (n % 16) (omega arith)) refl)

-- Each byte of a word's text is a hexadecimal digit.
pub hex_digits : (k n : ℕ) → list_all (λ c. is_digit c 16) (hex_text k n) ≡ true
hex_digits k n = all_hex (λ c. is_digit c 16) (λ d l. agree_below_at (λ d. is_digit (hex_digit d) 16) (λ d. true) 16 d refl l) k n

-- The digits of a number spell it.
pub hex_back : (k n : ℕ) → n < 16 ^ k → value_of 16 (hex_text k n) ≡ n
hex_back zero n l = omega arith
hex_back (suc k) n l =
    let p : 16 ^ suc k ≡ 16 ^ k * 16 = pow-suc 16 k in
    let i = hex_back k (n / 16) (omega (arith, p, l)) in
    let s = value_of_push 16 (hex_text k (n / 16)) (hex_digit (n % 16)) in
    let d = digit_back (n % 16) (omega arith) in
    s ∙ rw (i, d) (omega arith)
