use Rattle.plural_bytes.proofs.DigitValues.{value_more, digits_more}
use Rattle.plural_bytes.proofs.numerals.long_digits.Goals as goal

-- The bounded value is that of one more digit.
pub loop-c-preserved : goal.loop-c-preserved
loop-c-preserved c = record {
  digits = digits_more _ c.args.text.now c.loop-c.c-index c.loop-c-test.true (rw (← c.from.ensures) c.in-Some.ensures.value.0) c.loop-c.invariant.digits;
  value = value_more _ _ c.args.text.now c.loop-c.c-index _ _ _ c.loop-c-test.true (rw (← c.from.ensures) c.in-Some.ensures.value.1) c.with_digit-value.ensures c.loop-c.invariant.value;
}
