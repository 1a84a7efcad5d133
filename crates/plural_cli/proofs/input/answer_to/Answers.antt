use Rattle.std.proofs.Common.{sym, subst}
use Rattle.plural_cli.specs.declared.answer.Answer.{Answer}
use Rattle.plural_cli.specs.declared.command.Request.{Request}
use Rattle.plural_cli.specs.Run.{IsSerialAnswer}
use Rattle.plural_cli.specs.Check.{IsCheckAnswer}
use Rattle.plural_cli.specs.Output.{Answers}
use Rattle.plural_cli.proofs.input.answer_to.Goals as goal

-- The answer of `serial`, which comes from no machine.
pub returns-in_ok-serial_answer-in-Serial-clause-answer : goal.returns-in_ok-serial_answer-in-Serial-clause-answer
returns-in_ok-serial_answer-in-Serial-clause-answer g c =
    let a = c.alone.result.answer in
    subst (λ (r : Request). Answers r c.args.bytes.now a.status a.text.items) (sym c.in-Serial.is)
    (subst (λ (b : Answer). IsSerialAnswer c.args.bytes.now b.status b.text.items) (sym c.alone.ensures.answer) c.in_ok-serial_answer-in-Serial.ensures.answer)

-- The answer of `check`, which comes from no machine.
pub returns-in_ok-check_answer-in-Check-clause-answer : goal.returns-in_ok-check_answer-in-Check-clause-answer
returns-in_ok-check_answer-in-Check-clause-answer g c =
    let a = c.alone-in-Check.result.answer in
    subst (λ (r : Request). Answers r c.args.bytes.now a.status a.text.items) (sym c.in-Check.is)
    (subst (λ (b : Answer). IsCheckAnswer c.args.bytes.now b.status b.text.items) (sym c.alone-in-Check.ensures.answer) c.in_ok-check_answer-in-Check.ensures.answer)
