use Rattle.std.proofs.Common.{ℕ, ◌≡◌, ◌*◌, ◌<◌, length, get_or}
use Rattle.plural_trace.specs.Rules.{entry_at}
use Rattle.plural_trace.proofs.cores.starts.Given as goal

abbrev pub invariant-loop-i : goal.invariant-loop-i
invariant-loop-i l =
    record {
      long : length l.starts.items ≡ 2 * length l.entries;
      there : (s : ℕ) → s < 2 * length l.entries → get_or l.starts.items s 0 < l.m → (entry_at l.entries (get_or l.starts.items s 0)).start ≡ s;
      each : (k : ℕ) → k < l.i → get_or l.starts.items (entry_at l.entries k).start 0 ≡ k;
    }
