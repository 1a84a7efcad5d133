use Rattle.plural_cli.proofs.Machines.{kept_written}
use Rattle.plural_cli.proofs.top.obey.Goals as goal

-- The answer is written, and what goes with its status is kept.
pub returns-in-Ok-clause-answer : goal.returns-in-Ok-clause-answer
returns-in-Ok-clause-answer g c five seven =
    let reply = c.in-Ok.reply in
    let a = c.in-Ok.ensures.answer in
    let w = c.tell.ensures in
    record {
      status = reply.answer.status;
      text = reply.answer.text.items;
      answer = a.answer;
      writes = w.text;
      machine = kept_written c.args.request a.answer.bytes reply.answer.status c.tell.result reply.answer.text.items reply.machine c.tell.new.kept a.machine (λ h. (w.text.whole h).0) w.kept w.unkept;
    }
