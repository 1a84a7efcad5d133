use Rattle.std.proofs.Common.{ℕ, ◌≡◌, ◌+◌, ◌<◌, ◌≤◌, length, get_or}
use Rattle.std.specs.List.{All}
use Rattle.plural_trace.specs.Instances.{record_at}
use Rattle.plural_trace.proofs.records.begins.Given as goal

abbrev pub invariant-loop-i : goal.invariant-loop-i
invariant-loop-i l =
    record {
      long : length l.begins.items ≡ l.tasks;
      within : All (λ b. b ≤ length l.records) l.begins.items;
      begins : (j : ℕ) → j < l.i → j ≡ get_or l.begins.items (record_at l.records j).t 0 + (record_at l.records j).k;
    }
