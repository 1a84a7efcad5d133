use Rattle.std.proofs.Common.{◌≡◌, take}
use Rattle.plural_trace.specs.SerialLog.{serial_entries}
use Rattle.plural_trace.proofs.serial_run.serial_entries.Given as goal

abbrev pub invariant-loop-i : goal.invariant-loop-i
invariant-loop-i l = l.entries.items ≡ serial_entries 0 (take l.i l.records)
