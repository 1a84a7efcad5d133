use Rattle.std.proofs.Common.{take}
use Rattle.plural_crew.specs.Search.{IsLeastOf, MeetsSome}
use Rattle.plural_crew.proofs.least.meets_some.Given as goal

-- the least meeting with the regions so far
abbrev pub invariant-loop-s : goal.invariant-loop-s
invariant-loop-s l = IsLeastOf (MeetsSome l.r l.q1 (take l.s-index l.regions) l.q2 l.same_task) l.least
