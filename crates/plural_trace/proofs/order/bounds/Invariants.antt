use Rattle.std.proofs.Common.{ℕ, ◌≡◌, ◌<◌, length, get_or}
use Rattle.plural_trace.specs.Ends.{latest_before}
use Rattle.plural_reach.specs.Tables.{says_before}
use Rattle.plural_trace.proofs.order.bounds.Given as goal

abbrev pub invariant-loop-u : goal.invariant-loop-u
invariant-loop-u l =
    record {
      long : length l.bounds.items ≡ (length l.ends);
      bounds : (v : ℕ) → v < l.u → get_or l.bounds.items v 0 ≡ latest_before (says_before l.reach) v l.ends (length l.ends);
    }
