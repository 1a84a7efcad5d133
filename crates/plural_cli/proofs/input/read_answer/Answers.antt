use Rattle.std.proofs.Common.{ℕ, List, Err, ap, ◌∙◌, subst, arith}
use Rattle.plural_cli.specs.declared.answer.Answer.{Answer}
use Rattle.plural_cli.specs.Kept.{IsKept}
use Rattle.plural_cli.specs.Output.{Answers}
use Rattle.plural_cli.proofs.WholeInputs.{whole_input, long_input}
use Rattle.plural_cli.proofs.input.read_answer.Goals as goal

-- All bytes were read: what the request answers to them is its answer to what the source held.
pub returns-in-Ok-answer_to-clause-answer : goal.returns-in-Ok-answer_to-clause-answer
returns-in-Ok-answer_to-clause-answer g c =
    let left = g.S.Source.left in
    let r = c.in-Ok-answer_to.reply in
    whole_input c.args.request (left c.args.source.now) (left c.read_all.new.source) c.in-Ok.bytes.items r.answer.status r.answer.text.items r.machine c.in-Ok.ensures.all c.in-Ok.ensures.end (omega (arith, c.in-Ok.ensures.short, c.limit_of.ensures.value))
    (subst (λ (bytes : List ℕ). Answers c.args.request bytes r.answer.status r.answer.text.items) c.deref.ensures.value c.in-Ok-answer_to.ensures.answer)
    (subst (λ (bytes : List ℕ). IsKept c.args.request bytes r.answer.status r.answer.text.items r.machine) c.deref.ensures.value c.in-Ok-answer_to.ensures.machine)

-- More bytes than the limit were read: the refusal is the answer.
pub returns-in-Ok-refused-clause-answer : goal.returns-in-Ok-refused-clause-answer
returns-in-Ok-refused-clause-answer g c =
    let left = g.S.Source.left in
    let r = c.alone.result in
    let taken = c.read_all.ensures.too_long in
    let more = taken.2.0 (c.in-Err-TooLong.is ∙ ap Err c.in-Err-TooLong.field-0-is) in
    let same = c.alone.ensures.answer in
    long_input c.args.request (left c.args.source.now) (left c.read_all.new.source) taken.0 r.answer.status r.answer.text.items r.machine taken.1 (omega (arith, more, c.limit_of.ensures.value))
    (ap (λ (a : Answer). a.status) same ∙ c.in-Ok-refused.ensures.status)
    (ap (λ (a : Answer). a.text.items) same ∙ (c.in-Ok-refused.ensures.text ∙ c.too_long_of.ensures)) c.alone.ensures.machine
