use Rattle.std.proofs.Common.{ℕ, ◌≡◌, ◌<◌, length, get_or, take}
use Rattle.plural_trace.specs.Ends.{latest_end}
use Rattle.plural_trace.proofs.order.latest_ends.Given as goal

abbrev pub invariant-loop-i : goal.invariant-loop-i
invariant-loop-i l =
    record {
      long : length l.ends.items ≡ l.tasks;
      ends : (t : ℕ) → t < l.tasks → get_or l.ends.items t 0 ≡ latest_end t (take l.i l.entries);
    }
