use Rattle.plural_tests.specs.Workers.{IsIdle}
use Rattle.plural_tests.proofs.alloc.work.Given as goal

abbrev pub invariant-loop-t : goal.invariant-loop-t
invariant-loop-t l = IsIdle l.words l.worker.seat l.worker.engine
