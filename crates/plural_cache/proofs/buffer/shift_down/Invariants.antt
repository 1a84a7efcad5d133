use Rattle.std.proofs.Common.{◌≡◌, ◌-◌, length}
use Rattle.std.specs.Prelude.{remove}
use Rattle.plural_cache.proofs.buffer.shift_down.Given as goal

-- Without the pair at the place that is free next, they are the old ones without the first.
abbrev pub invariant-loop-i : goal.invariant-loop-i
invariant-loop-i l =
    record {
      same : length l.pairs ≡ length l.fn.pairs;
      shifted : remove l.pairs (l.i - 1) ≡ remove l.fn.pairs 0;
    }
