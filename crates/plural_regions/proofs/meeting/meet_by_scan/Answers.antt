use Rattle.std.proofs.Common.{◌≡◌, false, arith, below_more}
use Rattle.std.specs.Prelude.{Option, Some, None, IfNone, is_some}
use Rattle.plural_regions.proofs.MeetingLemmas.{least_of, none_earlier}
use Rattle.plural_regions.proofs.meeting.meet_by_scan.Goals as goal

-- The answer at `then-is_some` meets the clause `found`.
pub returns-then-is_some-clause-found : goal.returns-then-is_some-clause-found
returns-then-is_some-clause-found c = least_of c.args.r.now c.args.s.now c.args.q1 c.args.q2 c.args.same_task c.loop-k.k c.meet_at-found.result
    (none_earlier c.args.r.now c.args.s.now c.args.q1 c.args.q2 c.args.same_task c.loop-k.k c.loop-k.invariant) c.meet_at-found.ensures.found

none_found : {X : Type 0} {P : Type 0} (o : Option X) → false ≡ is_some o → IfNone o P → P
none_found None e h = h
none_found (Some x) e h = absurd cc

-- A turn of `loop-k` keeps its invariant.
pub loop-k-preserved : goal.loop-k-preserved
loop-k-preserved c = below_more _ _ c.loop-k.invariant (none_found c.meet_at-found.result (c.if-is_some.ensures) c.meet_at-found.ensures.none)

-- The answer meets the clause `none`.
pub returns-clause-none : goal.returns-clause-none
returns-clause-none c = λ k l a m. c.loop-k.invariant k (let b = m.first_below in omega arith) l a m
