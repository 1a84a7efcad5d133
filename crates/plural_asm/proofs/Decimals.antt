-- Numbers that are written as operands are read again.
use Rattle.std.proofs.Common.{◌≡◌, ℕ, suc, ◌+◌, ◌^◌, ◌<◌, ◌≤◌, true, ◌++◌, length, refl, arith}
use Rattle.std.specs.Prelude.{ℤ, pos, negsuc, neg_ℤ, ◌≤ℤ◌, ◌<ℤ◌, decimal, codes, Ok}
use Rattle.std.specs.List.{list_all}
use Rattle.std.specs.Fmt.{signed_decimal}
use Rattle.std.proofs.lemmas.Int.{ints}
use Rattle.std.proofs.lemmas.Fmt.{decimal_nonempty}
use Rattle.std.proofs.lemmas.Bool.{agree_below_at, le-leb}
use Rattle.plural_bytes.specs.Hexadecimal.{hex_digit, hex_text}
use Rattle.plural_bytes.specs.Numerals.{in_range}
use Rattle.plural_bytes.proofs.Decimals.{all_decimal, no_sign, numeral_back}
use Rattle.plural_bytes.proofs.Hexadecimals.{all_hex, hex_digits, hex_back}
use Rattle.plural_statement.specs.Operands.{unsigned_in, signed_in}
use Rattle.plural_asm.proofs.Plain.{is_word}

-- ---- their bytes

decimal_words : (n : ℕ) → n < 2 ^ 64 → list_all is_word (decimal n) ≡ true
decimal_words n small = all_decimal is_word (λ d l. agree_below_at (λ d. is_word (48 + d)) (λ d. true) 10 d refl l) n small

-- A signed number has bytes of a word alone.
pub signed_words : (z : ℤ) → neg_ℤ (pos 2147483648) ≤ℤ z → z <ℤ pos 2147483648 → list_all is_word (signed_decimal z) ≡ true
signed_words (pos n) a b = decimal_words n (omega (arith, ints))
signed_words (negsuc n) a b = decimal_words (suc n) (omega (arith, ints))

-- A signed number has a digit.
pub signed_some : (z : ℤ) → neg_ℤ (pos 2147483648) ≤ℤ z → z <ℤ pos 2147483648 → 0 < length (signed_decimal z)
signed_some (pos n) a b = decimal_nonempty n (omega (arith, ints))
signed_some (negsuc n) a b = omega arith

-- Hexadecimal digits are bytes of a word.
pub hex_words : (k n : ℕ) → list_all is_word (hex_text k n) ≡ true
hex_words k n = all_hex is_word (λ d l. agree_below_at (λ d. is_word (hex_digit d)) (λ d. true) 16 d refl l) k n

-- ---- their values

in_range_is : (limit n : ℕ) → n ≤ limit → in_range limit n ≡ Ok n
in_range_is limit n l = rw (le-leb n limit l) refl

-- A number from 0 to a limit is read as it was written.
pub unsigned_back : (above n : ℕ) → n ≤ above → n < 2 ^ 64 → unsigned_in above (decimal n) ≡ Ok n
unsigned_back above n l small = rw (no_sign n small, numeral_back n small, in_range_is above n l) refl

-- a number is from -below to above
abbrev pub IsBetween : (below above : ℕ) → ℤ → Type 0
IsBetween below above (pos n) = (n ≤ above) × (n < 2 ^ 64)
IsBetween below above (negsuc n) = (suc n ≤ below) × (suc n < 2 ^ 64)

-- A signed number in its range is read as it was written.
pub signed_back : (below above : ℕ) (z : ℤ) → IsBetween below above z → signed_in below above (signed_decimal z) ≡ Ok z
signed_back below above (pos n) l = rw (no_sign n l.1, numeral_back n l.1, in_range_is above n l.0) refl
signed_back below above (negsuc n) l = rw (numeral_back (suc n) l.1, in_range_is below (suc n) l.0) refl

-- the numeral of a word's eight digits
pub word_back : (w : ℕ) → w < 2 ^ 32 → unsigned_in 4294967295 (codes "0x" ++ hex_text 8 w) ≡ Ok w
word_back w l = rw (hex_digits 8 w, hex_back 8 w l, in_range_is 4294967295 w (omega arith)) refl
