use Rattle.std.proofs.Common.{◌≡◌, length, None}
use Rattle.plural_trace.specs.Least.{least}
use Rattle.plural_trace.specs.Rules.{breaks_records}
use Rattle.plural_trace.proofs.RecordPlaces.{Tells}
use Rattle.plural_trace.proofs.records.record_fault.Given as goal

abbrev pub invariant-loop-i : goal.invariant-loop-i
invariant-loop-i l =
    record {
      long : length l.seen.items ≡ length l.records;
      none : least (breaks_records l.records l.entries) l.i ≡ None;
      tells : Tells l.records l.entries l.i l.seen.items;
    }
