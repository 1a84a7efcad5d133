use Rattle.std.proofs.Common.{arith}
use Rattle.plural_regions.proofs.MeetingLemmas.{if_some, inside_end, still_found, apart_none_inside, apart_none_late, apart_none, apart_found}
use Rattle.plural_regions.proofs.meeting.candidate_apart.Goals as goal

-- The answer at `then-s-eq0` meets the clause `found`.
pub returns-then-s-eq0-clause-found : goal.returns-then-s-eq0-clause-found
returns-then-s-eq0-clause-found c = if_some _ _ c.first_reaching.result (λ k h. still_found c.args.r.now c.args.s.now c.args.q1 c.args.q2 k c.if-s-eq0.true h) c.first_reaching.ensures.found

-- The answer at `in_err-low` meets the clause `none`.
pub returns-in_err-low-clause-none : goal.returns-in_err-low-clause-none
returns-in_err-low-clause-none c = rw c.from_residual.ensures (apart_none_inside c.args.r.now c.args.s.now c.args.q1 c.args.q2 c.in_err-low.ensures.inside)

-- The answer at `then-q1-low` meets the clause `none`.
pub returns-then-q1-low-clause-none : goal.returns-then-q1-low-clause-none
returns-then-q1-low-clause-none c = apart_none_late c.args.r.now c.args.s.now c.args.q1 c.args.q2 c.in_ok-low.low c.in_ok-low.ensures.outside.1 c.if-q1-low.true

-- The call of `least_residue` has what its clause `b_limit` requires.
pub least_residue-requires-clause-b_limit : goal.least_residue-requires-clause-b_limit
least_residue-requires-clause-b_limit c =
    let e = inside_end c.args.r.now c.in_ok-low.low 1048576 (c.requires.first.inside c.in_ok-low.low c.if-q1-low.false) in
    omega arith

-- The answer at `in_err-steps` meets the clause `none`.
pub returns-in_err-steps-clause-none : goal.returns-in_err-steps-clause-none
returns-in_err-steps-clause-none c =
    let none = rw (c.from-5.ensures, c.from-6.ensures, c.from-7.ensures, c.from-3.ensures, c.from-4.ensures) at c.in_err-steps.ensures.none in
    rw c.from_residual-in_err-steps.ensures
    (apart_none c.args.r.now c.args.s.now c.args.q1 c.args.q2 c.in_ok-low.low _ c.in_ok-low.ensures.outside.0 c.in_ok-low.ensures.outside.1 (omega arith) none)

-- The answer meets the clause `found`.
pub returns-clause-found : goal.returns-clause-found
returns-clause-found c =
    let found = rw (c.from-5.ensures, c.from-6.ensures, c.from-7.ensures, c.from-3.ensures, c.from-4.ensures) at c.in_ok-steps.ensures.found in
    apart_found c.args.r.now c.args.s.now c.args.q1 c.args.q2 c.in_ok-low.low _ c.in_ok-steps.steps c.in_ok-low.ensures.outside.0 c.in_ok-low.ensures.outside.1 (omega arith) found
