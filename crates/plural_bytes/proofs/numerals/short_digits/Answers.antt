use Rattle.std.proofs.Common.{sym, arith}
use Rattle.plural_bytes.proofs.DigitValues.{digits_more, value_next, next_fits}
use Rattle.plural_bytes.proofs.numerals.short_digits.Goals as goal

-- A u64 holds the digits so far.
pub overflow_mul-value : goal.overflow_mul-value
overflow_mul-value c =
    let fits =
    next_fits c.args.base c.args.text.now c.loop-c.c-index c.loop-c.value c.in-Some.digit c.requires.base.1 (omega arith) c.loop-c-test.true (rw (← c.from.ensures) c.in-Some.ensures.value.1) (rw c.in-Some.ensures.value.1 c.in-Some.ensures.value.0) c.loop-c.invariant.value
    c.loop-c.invariant.digits in
    rw c.from-in-Some.ensures (omega (arith, fits))

-- It holds one more.
pub overflow_add-value : goal.overflow_add-value
overflow_add-value c =
    let fits =
    next_fits c.args.base c.args.text.now c.loop-c.c-index c.loop-c.value c.in-Some.digit c.requires.base.1 (omega arith) c.loop-c-test.true (rw (← c.from.ensures) c.in-Some.ensures.value.1) (rw c.in-Some.ensures.value.1 c.in-Some.ensures.value.0) c.loop-c.invariant.value
    c.loop-c.invariant.digits in
    rw (c.from-in-Some.ensures, c.from-in-Some-2.ensures) (omega (arith, fits))

-- The value is that of one more digit.
pub loop-c-preserved : goal.loop-c-preserved
loop-c-preserved c = record {
  digits = digits_more _ c.args.text.now c.loop-c.c-index c.loop-c-test.true (rw (← c.from.ensures) c.in-Some.ensures.value.0) c.loop-c.invariant.digits;
  value =
      rw (c.from-in-Some.ensures, c.from-in-Some-2.ensures, c.loop-c.invariant.value)
      (sym (value_next c.args.base c.args.text.now c.loop-c.c-index c.in-Some.digit c.loop-c-test.true (rw (← c.from.ensures) c.in-Some.ensures.value.1)));
}
