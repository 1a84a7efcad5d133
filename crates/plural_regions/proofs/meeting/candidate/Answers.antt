use Rattle.std.proofs.Common.{arith}
use Rattle.plural_regions.proofs.MeetingLemmas.{candidate_zero}
use Rattle.plural_regions.proofs.meeting.candidate.Goals as goal

-- The answer at `then-not-same_task` meets the clause `none`.
pub returns-then-not-same_task-clause-none : goal.returns-then-not-same_task-clause-none
returns-then-not-same_task-clause-none c = rw c.if-not-same_task.true c.candidate_apart.ensures.none

-- The answer at `else-q1-eq0` meets the clause `found`.
pub returns-else-q1-eq0-clause-found : goal.returns-else-q1-eq0-clause-found
returns-else-q1-eq0-clause-found c = candidate_zero c.args.r.now c.args.s.now c.args.q1 c.args.q2 c.args.same_task c.if-not-same_task.false (c.requires.even c.if-not-same_task.false) (omega arith)
