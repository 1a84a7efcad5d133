use Rattle.std.proofs.Common.{◌≡◌}
use Rattle.std.specs.List.{All}
use Rattle.plural_machine.specs.Knowing.{numbers_below}
use Rattle.plural_rule.specs.Stages.{outs_of}
use Rattle.plural_words.specs.Seen.{IsRootOf}
use Rattle.plural_tests.specs.Workers.{IsIdle}
use Rattle.plural_tests.proofs.alloc.workers_of.Given as goal

abbrev pub invariant-loop-i : goal.invariant-loop-i
invariant-loop-i l = IsRootOf l.words l.root × (outs_of l.root.view.role ≡ numbers_below l.i)
    × All (λ w. IsIdle l.words w.seat w.engine) l.workers.items
