use Rattle.std.proofs.Common.{◌≡◌, vec_capacity}
use Rattle.plural_finished.specs.Entering.{HasEntered}
use Rattle.plural_finished.proofs.entering.enter_task.Given as goal

abbrev pub invariant-loop-k : goal.invariant-loop-k
invariant-loop-k l = HasEntered l.closed l.t l.k l.entries.items × (vec_capacity l.entries ≡ vec_capacity l.fn.entries)
