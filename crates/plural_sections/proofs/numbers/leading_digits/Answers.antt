use Rattle.std.proofs.Common.{◌≡◌, ℕ, ◌+◌, ◌-◌, ◌*◌, ◌^◌, ◌<◌, true, List, length, take, get_or, sym, ◌∙◌, arith}
use Rattle.std.specs.List.{list_all}
use Rattle.std.specs.Char.{is_ascii_digit, digit_value}
use Rattle.std.proofs.lemmas.Bool.{and_from}
use Rattle.std.proofs.lemmas.List.Folds.{list_all_more}
use Rattle.plural_bytes.specs.Numerals.{value_of}
use Rattle.plural_bytes.proofs.DigitValues.{value_next, next_fits}
use Rattle.plural_bytes.proofs.Decimals.{digit_is, all_count}
use Rattle.plural_sections.proofs.numbers.leading_digits.Goals as goal

digit_at : (text : List ℕ) (i : ℕ) → is_ascii_digit (get_or text i 0) ≡ true → get_or text i 0 - 48 ≡ digit_value (get_or text i 0)
digit_at text i h = let d = digit_is (get_or text i 0) h in omega (arith, d.0)

fits : (text : List ℕ) (i v : ℕ) → i < 10 → i < length text → is_ascii_digit (get_or text i 0) ≡ true → v ≡ value_of 10 (take i text) → list_all is_ascii_digit (take i text) ≡ true → v * 10 + (get_or text i 0 - 48) < 2 ^ 64
fits text i v few l h value digits =
    let d = digit_is (get_or text i 0) h in
    next_fits 10 text i v (get_or text i 0 - 48) (omega arith) (omega arith) l (digit_at text i h) (omega (arith, d.0, d.1)) value (all_count (take i text) digits)

-- A u64 holds the digits so far.
pub overflow_mul-value : goal.overflow_mul-value
overflow_mul-value c =
    let h = sym c.is_ascii_digit.ensures.value ∙ c.if-not-is_ascii_digit.false in
    let f = fits c.args.text.now c.loop-len.len c.loop-len.value (omega arith) c.loop-len-test.true h c.loop-len.invariant.value c.loop-len.invariant.digits in
    omega (arith, f)

-- It holds one more.
pub overflow_add-value : goal.overflow_add-value
overflow_add-value c =
    let h = sym c.is_ascii_digit.ensures.value ∙ c.if-not-is_ascii_digit.false in
    let f = fits c.args.text.now c.loop-len.len c.loop-len.value (omega arith) c.loop-len-test.true h c.loop-len.invariant.value c.loop-len.invariant.digits in
    rw c.from.ensures (omega (arith, f))

-- One more digit is read.
pub loop-len-preserved : goal.loop-len-preserved
loop-len-preserved c =
    let h = sym c.is_ascii_digit.ensures.value ∙ c.if-not-is_ascii_digit.false in
    let text = c.args.text.now in
    let i = c.loop-len.len in
    record {
      few = omega arith;
      digits = list_all_more is_ascii_digit text i 0 c.loop-len-test.true ∙ and_from _ _ c.loop-len.invariant.digits h;
      value = rw (c.from.ensures, c.loop-len.invariant.value) (sym (value_next 10 text i (get_or text i 0 - 48) c.loop-len-test.true (digit_at text i h)));
    }
