use Rattle.std.proofs.Common.{take}
use Rattle.plural_crew.specs.Search.{IsLeastOf, SomeMeet}
use Rattle.plural_crew.proofs.least.some_meet.Given as goal

-- the least meeting of the regions so far
abbrev pub invariant-loop-r : goal.invariant-loop-r
invariant-loop-r l = IsLeastOf (SomeMeet (take l.r-index l.firsts) l.q1 l.seconds l.q2 l.same_task) l.least
