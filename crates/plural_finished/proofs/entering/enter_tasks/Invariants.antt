use Rattle.std.proofs.Common.{◌≡◌, vec_capacity}
use Rattle.plural_finished.specs.Entering.{HasEntered}
use Rattle.plural_finished.proofs.entering.enter_tasks.Given as goal

abbrev pub invariant-loop-t : goal.invariant-loop-t
invariant-loop-t l = HasEntered l.closed l.t 0 l.entries.items × (vec_capacity l.entries ≡ vec_capacity l.fn.entries)
