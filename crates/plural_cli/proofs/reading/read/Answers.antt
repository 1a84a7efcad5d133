use Rattle.std.proofs.Common.{ℕ, ◌+◌, ap, ◌∙◌, subst, List, IfOk, arith}
use Rattle.plural_bytes.specs.Lines.{TextLine}
use Rattle.plural_bytes.specs.Spelled.{text_lines}
use Rattle.plural_cli.specs.Lines.{line_after}
use Rattle.plural_cli.specs.Reading.{IsReading}
use Rattle.plural_cli.proofs.LineCounts.{length-pieces}
use Rattle.plural_cli.proofs.reading.read.Goals as goal

-- The number of the line after the last fits a u32.
pub overflow_add-line_count : goal.overflow_add-line_count
overflow_add-line_count c = omega (arith, c.requires, length-pieces c.args.bytes.now, c.line_count.ensures)

-- What was read of the content lines is what was read of the input.
pub returns : goal.returns
returns c =
    let lines = ap text_lines c.as_slice-lines.ensures.value ∙ c.in_ok-lines.ensures in
    let reading = subst (λ (n : ℕ). IfOk c.read_lines.result (λ r. IsReading (text_lines c.as_slice-lines.result.now) (text_lines c.as_slice-lines.result.now) n r)) (ap (λ (n : ℕ). n + 1) c.line_count.ensures) c.read_lines.ensures in
    subst (λ (ls : List TextLine). IfOk c.read_lines.result (λ r. IsReading ls ls (line_after c.args.bytes.now) r)) lines reading
