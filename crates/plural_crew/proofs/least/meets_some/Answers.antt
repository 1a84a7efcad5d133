use Rattle.std.proofs.Common.{List, sym, subst, arith}
use Rattle.std.proofs.lemmas.List.{take_all}
use Rattle.plural_regions.specs.declared.region.Region.{Region}
use Rattle.plural_regions.specs.Search.{IsSearchable}
use Rattle.plural_crew.specs.Search.{IsLeastOf, MeetWriting, MeetsSome}
use Rattle.plural_crew.proofs.LeastLemmas.{least_none, least_more}
use Rattle.plural_crew.proofs.least.meets_some.Goals as goal

-- The invariant of `loop-s` holds at its start.
pub loop-s-init : goal.loop-s-init
loop-s-init c = least_none (λ s. MeetWriting c.args.r.now c.args.q1 s c.args.q2 c.args.same_task) c.args.regions.now

-- The call of `meet_writing` has what its clause `second` requires.
pub meet_writing-requires-clause-second : goal.meet_writing-requires-clause-second
meet_writing-requires-clause-second c = subst (λ (s : Region). IsSearchable s c.args.q2) (sym c.s-item.is) (c.requires.second c.loop-s.s-index c.s-item.result c.loop-s-test.true)

-- A turn of `loop-s` keeps its invariant.
pub loop-s-preserved : goal.loop-s-preserved
loop-s-preserved c = rw c.lesser-least.ensures
    (least_more (λ s. MeetWriting c.args.r.now c.args.q1 s c.args.q2 c.args.same_task) c.args.regions.now c.loop-s.s-index c.s-item.result c.loop-s.least c.meet_writing.result c.loop-s-test.true c.loop-s.invariant
    (subst (λ (s : Region). IsLeastOf (MeetWriting c.args.r.now c.args.q1 s c.args.q2 c.args.same_task) c.meet_writing.result) c.s-item.is c.meet_writing.ensures))

-- The answer meets the contract.
pub returns : goal.returns
returns c = subst (λ (ss : List Region). IsLeastOf (MeetsSome c.args.r.now c.args.q1 ss c.args.q2 c.args.same_task) c.loop-s.least) (take_all c.loop-s.s-index c.args.regions.now (omega arith)) c.loop-s.invariant
