use Rattle.std.proofs.Common.{◌≡◌, ◌-◌, length}
use Rattle.std.specs.Prelude.{remove}
use Rattle.plural_cache.proofs.set.shift_in.Given as goal

-- Without the line at the place that is free next, they are the old ones without the p-th.
abbrev pub invariant-loop-i : goal.invariant-loop-i
invariant-loop-i l =
    record {
      same : length l.lines ≡ length l.fn.lines;
      shifted : remove l.lines (l.p - l.i) ≡ remove l.fn.lines l.p;
    }
