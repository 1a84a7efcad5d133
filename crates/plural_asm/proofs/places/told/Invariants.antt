use Rattle.std.proofs.Common.{◌≤◌}
use Rattle.plural_asm.proofs.places.told.Given as goal

abbrev pub invariant-loop-line : goal.invariant-loop-line
invariant-loop-line l = record { few : l.left ≤ 16384 }
