use Rattle.std.proofs.Common.{take}
use Rattle.plural_sync.specs.Lists.{rows_of, HasGained}
use Rattle.plural_sync.proofs.lists.add_task.Given as goal

abbrev pub invariant-loop-dep : goal.invariant-loop-dep
invariant-loop-dep l = HasGained (take l.dep-index l.deps) l.u (rows_of l.fn.lists.items) (rows_of l.lists.items)
