use Rattle.plural_crew.proofs.LeastLemmas.{least_of_meet}
use Rattle.plural_crew.proofs.least.meet_writing.Goals as goal

-- The answer at `then-one_writes` meets the contract.
pub returns-then-one_writes : goal.returns-then-one_writes
returns-then-one_writes c =
    least_of_meet c.args.r.now c.args.q1 c.args.s.now c.args.q2 c.args.same_task c.meet.result (c.one_writes.ensures.0 c.if-one_writes.true) c.meet.ensures.found c.meet.ensures.none
