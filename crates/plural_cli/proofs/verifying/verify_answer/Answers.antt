use Rattle.std.proofs.Common.{ℕ, ◌+◌, ap, ◌∙◌, subst, List, IfOk, arith}
use Rattle.plural_bytes.specs.Lines.{TextLine}
use Rattle.plural_bytes.specs.Spelled.{text_lines}
use Rattle.plural_cli.specs.Lines.{line_after}
use Rattle.plural_cli.specs.Verify.{IsJointAnswer}
use Rattle.plural_cli.proofs.LineCounts.{length-pieces}
use Rattle.plural_cli.proofs.verifying.verify_answer.Goals as goal

-- The number of the line after the last fits a u32.
pub overflow_add-line_count : goal.overflow_add-line_count
overflow_add-line_count c = omega (arith, c.requires, length-pieces c.args.bytes.now, c.line_count.ensures)

-- The answer to the content lines is that to the input.
pub returns-clause-answer : goal.returns-clause-answer
returns-clause-answer c =
    let lines = ap text_lines c.deref.ensures.value ∙ c.in_ok-lines.ensures in
    let answer = subst (λ (n : ℕ). IfOk c.joint_answer.result (λ a. IsJointAnswer (text_lines c.deref.result.now) n a.status a.text.items)) (ap (λ (n : ℕ). n + 1) c.line_count.ensures) c.joint_answer.ensures.answer in
    subst (λ (ls : List TextLine). IfOk c.joint_answer.result (λ a. IsJointAnswer ls (line_after c.args.bytes.now) a.status a.text.items)) lines answer
