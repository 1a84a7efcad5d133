use Rattle.std.proofs.Common.{◌≡◌, ◌*◌, ◌≤◌, take}
use Rattle.std.specs.Prelude.{sum_by}
use Rattle.plural_trace.specs.declared.entry.Entry.{Entry}
use Rattle.plural_cli.proofs.made_line.work_of.Given as goal

abbrev pub invariant-loop-entry : goal.invariant-loop-entry
invariant-loop-entry l = record {
  instructions : l.instructions ≡ sum_by (λ (e : Entry). e.rec.instructions) (take l.entry-index l.entries);
  stores : l.stores ≡ sum_by (λ (e : Entry). e.rec.stores) (take l.entry-index l.entries);
  few_instructions : l.instructions ≤ 4294967296 * l.entry-index;
  few_stores : l.stores ≤ 4294967296 * l.entry-index;
}
