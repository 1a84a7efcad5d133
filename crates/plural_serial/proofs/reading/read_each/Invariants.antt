use Rattle.std.proofs.Common.{ℕ, ◌<◌, ◌^◌, get_or}
use Rattle.plural_serial.proofs.reading.read_each.Given as goal

-- Those that were read are words.
abbrev pub invariant-loop-i : goal.invariant-loop-i
invariant-loop-i l = (j : ℕ) → j < l.i → get_or l.words j 0 < 2 ^ 32
