use Rattle.std.proofs.Common.{◌∙◌, sym}
use Rattle.plural_trace.proofs.SerialEntries.{entries_more}
use Rattle.plural_trace.proofs.serial_run.serial_entries.Goals as goal

-- A turn of `loop-i` keeps its invariant.
pub loop-i-preserved : goal.loop-i-preserved
loop-i-preserved c = c.in_ok-push.ensures.items ∙ rw (c.loop-i.invariant, c.serial_entry.ensures) (sym (entries_more c.args.records.now c.loop-i.i _ c.loop-i-test.true))
