use Rattle.std.proofs.Common.{◌≡◌, ap, sym, ◌∙◌, true, false, arith}
use Rattle.plural_isa.specs.RegisterNames.{is_name_of}
use Rattle.plural_isa.proofs.FirstInRange.{find-next, find-this, find-end}
use Rattle.plural_isa.proofs.register_names.reg_of.Goals as goal

-- A register without the name is passed over.
pub loop-number-preserved : goal.loop-number-preserved
loop-number-preserved c =
    let fails : is_name_of c.args.text.now c.loop-number.number ≡ false = ap (λ n. is_name_of c.args.text.now n) (sym c.of-reg.ensures) ∙ sym c.is_name_of.ensures ∙ c.if-is_name_of.false in
    c.loop-number.invariant ∙ find-next (λ n. is_name_of c.args.text.now n) c.loop-number.number 32 c.loop-number-test.true fails

-- A register with the name is found.
pub returns-then-is_name_of : goal.returns-then-is_name_of
returns-then-is_name_of c =
    let passes : is_name_of c.args.text.now c.loop-number.number ≡ true = ap (λ n. is_name_of c.args.text.now n) (sym c.of-reg.ensures) ∙ sym c.is_name_of.ensures ∙ c.if-is_name_of.true in
    rw c.of-reg.ensures (sym (c.loop-number.invariant ∙ find-this (λ n. is_name_of c.args.text.now n) c.loop-number.number 32 c.loop-number-test.true passes))

-- At the end no register has the name.
pub returns : goal.returns
returns c = sym (c.loop-number.invariant ∙ find-end (λ n. is_name_of c.args.text.now n) c.loop-number.number 32 (omega arith))
