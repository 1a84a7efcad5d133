use Rattle.plural_regions.proofs.MeetingLemmas.{least_of, if_none}
use Rattle.plural_regions.proofs.meeting.meet.Goals as goal

-- The answer meets the clause `found`.
pub returns-clause-found : goal.returns-clause-found
returns-clause-found c = least_of c.args.r.now c.args.s.now c.args.q1 c.args.q2 c.args.same_task c.in_ok-k.k c.meet_at.result c.in_ok-k.ensures.found.first c.meet_at.ensures.found

-- The answer meets the clause `none`.
pub returns-clause-none : goal.returns-clause-none
returns-clause-none c = if_none _ _ c.meet_at.result c.in_ok-k.ensures.found.met c.meet_at.ensures.none
