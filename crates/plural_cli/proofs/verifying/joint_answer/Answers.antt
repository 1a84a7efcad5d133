use Rattle.std.proofs.Common.{List, subst}
use Rattle.std.proofs.lemmas.Result.{IfOk-weaker}
use Rattle.plural_bytes.specs.Lines.{TextLine}
use Rattle.plural_bytes.specs.Spelled.{text_lines}
use Rattle.plural_cli.specs.Lines.{IsFaulty}
use Rattle.plural_cli.specs.Reading.{IsWhole}
use Rattle.plural_cli.specs.Verify.{IsOutputAnswer, IsJointAnswer}
use Rattle.plural_cli.proofs.JointLines.{refused_in_bundle, answered_whole}
use Rattle.plural_cli.proofs.verifying.joint_answer.Goals as goal

-- The bundle's lines have a fault: the first is told.
pub returns-in-Faulty-clause-answer : goal.returns-in-Faulty-clause-answer
returns-in-Faulty-clause-answer c =
    let all = text_lines c.args.lines.now in
    let faulty = rw c.in-Faulty.is at c.in_ok-answer.ensures in
    refused_in_bundle all c.args.end c.in-Faulty.answer.status c.in-Faulty.answer.text.items
    (subst (λ (ls : List TextLine). IsFaulty all ls c.args.end c.in-Faulty.answer.status c.in-Faulty.answer.text.items) c.split_parts-parts.ensures.bundle faulty)

-- The bundle was read: the answer to the output after it is the answer to all lines.
pub returns-in-Whole-clause-answer : goal.returns-in-Whole-clause-answer
returns-in-Whole-clause-answer c =
    let all = text_lines c.args.lines.now in
    let lines = text_lines c.split_parts-parts.result.bundle.now in
    let others = text_lines c.split_parts-parts.result.output.now in
    let whole : IsWhole all lines c.args.end c.in-Whole.bundle = rw c.in-Whole.is at c.in_ok-answer.ensures in
    IfOk-weaker c.output_answer.result (λ a. IsOutputAnswer c.in-Whole.bundle others c.args.end a.status a.text.items) (λ a. IsJointAnswer all c.args.end a.status a.text.items)
    (λ a p. answered_whole all lines others c.args.end c.in-Whole.bundle c.split_parts-parts.ensures.bundle c.split_parts-parts.ensures.output whole a.status a.text.items p)
    c.output_answer.ensures.answer
