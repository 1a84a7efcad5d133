use Rattle.std.proofs.Common.{ap}
use Rattle.plural_serial.specs.Program.{ProgramValue}
use Rattle.plural_rule.specs.Opening.{task_count}
use Rattle.plural_finished.proofs.Entered.{sorted_entries}
use Rattle.plural_finished.proofs.entering.fill_entries.Goals as goal

-- After the last task the entries are those of all done instances, and they are sorted.
pub returns : goal.returns
returns c = sorted_entries _ (task_count c.args.program.now) _ _ c.requires.run (ap (λ (p : ProgramValue). task_count p) c.requires.program) c.enter_tasks.ensures c.sort.ensures.permutation c.sort.ensures.sorted
