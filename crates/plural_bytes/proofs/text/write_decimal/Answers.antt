use Rattle.std.proofs.Common.{◌≡◌, ℕ, ◌+◌, ◌-◌, ◌%◌, ◌^◌, ◌<◌, ◌≤◌, List, ◌∷◌, ◌++◌, set, length, drop, ap, ◌∙◌, append_assoc, arith, length-append, length-drop, length-set}
use Rattle.std.specs.Fmt.{decimal}
use Rattle.std.proofs.lemmas.Fmt.{decimal_digit, decimal_step, decimal_nonempty, length-decimal-le}
use Rattle.std.proofs.lemmas.List.{drop-set}
use Rattle.plural_bytes.proofs.text.write_decimal.Goals as goal

-- Ten places hold the digits of a number: one is left if some are still to be written.
place_left : (text : List ℕ) (at rest n : ℕ) → length text ≡ 10 → at ≤ 10 → rest < 2 ^ 32 → n < 2 ^ 32 → decimal rest ++ drop at text ≡ decimal n → 1 ≤ at
place_left text at rest n long inside small whole written =
    omega (arith, decimal_nonempty rest (omega arith), length-decimal-le 10 n (omega arith) (omega arith) (omega arith), simp (length-append, length-drop) at (ap length written))

-- A digit that is put before a place.
digit_put : (text : List ℕ) (at d : ℕ) → 1 ≤ at → at ≤ length text → drop (at - 1) (set text (at - 1) d) ≡ d ∷ drop at text
digit_put text at d some inside =
    let next : at - 1 + 1 ≡ at = omega arith in
    drop-set text (at - 1) d (omega arith) ∙ ap (λ i. d ∷ drop i text) next

-- A place is left for one more digit.
pub overflow_sub-at : goal.overflow_sub-at
overflow_sub-at c = place_left _ _ _ _ c.loop-rest.invariant.long c.loop-rest.invariant.inside c.loop-rest.auto.rest-fits.fits c.ranges.n.fits c.loop-rest.invariant.written

-- And for the first one.
pub overflow_sub-at-2 : goal.overflow_sub-at-2
overflow_sub-at-2 c = place_left _ _ _ _ c.loop-rest.invariant.long c.loop-rest.invariant.inside c.loop-rest.auto.rest-fits.fits c.ranges.n.fits c.loop-rest.invariant.written

-- One more digit before those written.
pub loop-rest-preserved : goal.loop-rest-preserved
loop-rest-preserved c =
    let i = c.loop-rest.invariant in
    let some = place_left _ _ _ _ i.long i.inside c.loop-rest.auto.rest-fits.fits c.ranges.n.fits i.written in
    let step = decimal_step c.loop-rest.rest c.loop-rest-test.true (omega arith) in
    record {
      written = rw (digit_put c.loop-rest.text c.loop-rest.at (48 + c.loop-rest.rest % 10) some (omega arith)) (rw (step, append_assoc) at i.written);
      inside = omega arith;
      long = length-set _ _ _ ∙ i.long;
    }

-- The digits from the place on spell the number.
pub returns-clause-digits : goal.returns-clause-digits
returns-clause-digits c =
    let i = c.loop-rest.invariant in
    let some = place_left _ _ _ _ i.long i.inside c.loop-rest.auto.rest-fits.fits c.ranges.n.fits i.written in
    rw (digit_put c.loop-rest.text c.loop-rest.at (48 + c.loop-rest.rest) some (omega arith)) (rw (decimal_digit c.loop-rest.rest c.loop-rest-test.false) at i.written)
