use Rattle.std.proofs.Common.{List, sym, subst, arith}
use Rattle.std.proofs.lemmas.List.{take_all}
use Rattle.plural_regions.specs.declared.region.Region.{Region}
use Rattle.plural_regions.specs.Search.{IsSearchable}
use Rattle.plural_crew.specs.Search.{IsLeastOf, MeetsSome, SomeMeet}
use Rattle.plural_crew.proofs.LeastLemmas.{least_none, least_more}
use Rattle.plural_crew.proofs.least.some_meet.Goals as goal

-- The invariant of `loop-r` holds at its start.
pub loop-r-init : goal.loop-r-init
loop-r-init c = least_none (λ r. MeetsSome r c.args.q1 c.args.seconds.now c.args.q2 c.args.same_task) c.args.firsts.now

-- The call of `meets_some` has what its clause `first` requires.
pub meets_some-requires-clause-first : goal.meets_some-requires-clause-first
meets_some-requires-clause-first c = subst (λ (r : Region). IsSearchable r c.args.q1) (sym c.r-item.is) (c.requires.first c.loop-r.r-index c.r-item.result c.loop-r-test.true)

-- A turn of `loop-r` keeps its invariant.
pub loop-r-preserved : goal.loop-r-preserved
loop-r-preserved c = rw c.lesser-least.ensures
    (least_more (λ r. MeetsSome r c.args.q1 c.args.seconds.now c.args.q2 c.args.same_task) c.args.firsts.now c.loop-r.r-index c.r-item.result c.loop-r.least c.meets_some.result c.loop-r-test.true c.loop-r.invariant
    (subst (λ (r : Region). IsLeastOf (MeetsSome r c.args.q1 c.args.seconds.now c.args.q2 c.args.same_task) c.meets_some.result) c.r-item.is c.meets_some.ensures))

-- The answer meets the contract.
pub returns : goal.returns
returns c = subst (λ (rs : List Region). IsLeastOf (SomeMeet rs c.args.q1 c.args.seconds.now c.args.q2 c.args.same_task) c.loop-r.least) (take_all c.loop-r.r-index c.args.firsts.now (omega arith)) c.loop-r.invariant
