use Rattle.std.proofs.Common.{Err, ap, sym, ◌∙◌}
use Rattle.plural_bytes.specs.Numerals.{numeral}
use Rattle.plural_sections.proofs.Caps.{capped_ok, capped_range, capped_form}
use Rattle.plural_sections.proofs.numbers.capped_numeral.Goals as goal

-- A number within 32 bits is its own cap.
pub returns-in-Ok : goal.returns-in-Ok
returns-in-Ok c = capped_ok (numeral c.args.text.now) c.in-Ok.n (sym c.in-Ok.is ∙ c.number.ensures)

-- A greater one has the cap.
pub returns-in-Err-Range : goal.returns-in-Err-Range
returns-in-Err-Range c = capped_range (numeral c.args.text.now) (ap (λ e. Err e) (sym c.in-Err-Range.field-0-is) ∙ sym c.in-Err-Range.is ∙ c.number.ensures)

-- What is no numeral has no number.
pub returns-in-Err-Form : goal.returns-in-Err-Form
returns-in-Err-Form c = capped_form (numeral c.args.text.now) (ap (λ e. Err e) (sym c.in-Err-Form.field-0-is) ∙ sym c.in-Err-Form.is ∙ c.number.ensures)
