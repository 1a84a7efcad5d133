use Rattle.std.proofs.Common.{ℕ, ◌<◌}
use Rattle.plural_regions.specs.Search.{NeverAt}
use Rattle.plural_regions.proofs.meeting.meet_by_scan.Given as goal

abbrev pub invariant-loop-k : goal.invariant-loop-k
invariant-loop-k l = (i : ℕ) → i < l.k → NeverAt l.r l.q1 l.s l.q2 l.same_task i
