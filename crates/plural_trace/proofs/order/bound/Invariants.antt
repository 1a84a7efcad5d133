use Rattle.std.proofs.Common.{◌≡◌}
use Rattle.plural_trace.specs.Ends.{latest_before}
use Rattle.plural_reach.specs.Tables.{says_before}
use Rattle.plural_trace.proofs.order.bound.Given as goal

abbrev pub invariant-loop-t : goal.invariant-loop-t
invariant-loop-t l = l.latest ≡ latest_before (says_before l.reach) l.u l.ends l.t
