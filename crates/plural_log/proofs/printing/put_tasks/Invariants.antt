use Rattle.std.proofs.Common.{◌≡◌, ◌++◌, take}
use Rattle.plural_log.specs.Print.{task_texts}
use Rattle.plural_log.proofs.printing.put_tasks.Given as goal

abbrev pub invariant-loop-t : goal.invariant-loop-t
invariant-loop-t l = l.out.items ≡ l.fn.out.items ++ task_texts (take l.t l.tasks) (take l.t l.outcomes)
