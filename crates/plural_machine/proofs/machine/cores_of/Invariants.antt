use Rattle.std.proofs.Common.{◌≡◌, ◌≤◌, length}
use Rattle.plural_cores.specs.Cores.{IsOpened}
use Rattle.plural_machine.specs.Together.{Each}
use Rattle.plural_machine.proofs.machine.cores_of.Given as goal

abbrev pub invariant-loop-i : goal.invariant-loop-i
invariant-loop-i l = (length l.cores.items ≡ l.i) × (l.i ≤ l.count) × Each (IsOpened l.program) l.cores.items
