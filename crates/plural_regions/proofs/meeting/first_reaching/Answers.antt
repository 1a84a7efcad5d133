use Rattle.std.proofs.Common.{arith}
use Rattle.plural_regions.proofs.MeetingLemmas.{reach_none_outside, reach_found, reach_none_late, reach_none_begins}
use Rattle.plural_regions.proofs.meeting.first_reaching.Goals as goal
use Rattle.plural_regions.proofs.meeting.first_reaching.Goals.{else-l-q-via-then-l-q+else-start-from, else-l-q-via-else-l-q}

-- The answer at `in_err-first` meets the clause `none`.
pub returns-in_err-first-clause-none : goal.returns-in_err-first-clause-none
returns-in_err-first-clause-none c = rw c.from_residual.ensures (reach_none_outside c.args.region.now c.args.start c.args.count c.args.low c.args.q c.in_err-first.ensures.inside)

-- The answer at `then-start-from` meets the clause `found`.
pub returns-then-start-from-clause-found : goal.returns-then-start-from-clause-found
returns-then-start-from-clause-found c =
    reach_found c.args.region.now c.args.start c.args.count c.args.low c.args.q c.in_ok-first.first c.max-l.result c.in_ok-first.ensures.outside.0 c.in_ok-first.ensures.outside.1 c.max-l.ensures c.if-l-q.true (omega arith)

-- The answer at `else-l-q` meets the clause `none`.
pub returns-else-l-q-clause-none : goal.returns-else-l-q-clause-none
returns-else-l-q-clause-none c = elim c.else-l-q.branch [
  | else-l-q-via-then-l-q+else-start-from w ↦ reach_none_begins c.args.region.now c.args.start c.args.count c.args.low c.args.q c.in_ok-first.first c.max-l.result c.in_ok-first.ensures.outside.1 c.max-l.ensures (omega arith)
  | else-l-q-via-else-l-q w ↦ reach_none_late c.args.region.now c.args.start c.args.count c.args.low c.args.q c.in_ok-first.first c.max-l.result c.in_ok-first.ensures.outside.1 c.max-l.ensures (omega arith)
]
