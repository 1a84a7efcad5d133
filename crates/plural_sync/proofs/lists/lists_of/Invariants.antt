use Rattle.plural_sync.specs.Lists.{rows_of, HasSuccessors}
use Rattle.plural_sync.proofs.lists.lists_of.Given as goal

abbrev pub invariant-loop-u : goal.invariant-loop-u
invariant-loop-u l = HasSuccessors l.program.map.tasks l.u (rows_of l.lists.items)
