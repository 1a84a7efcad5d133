use Rattle.plural_tests.specs.Workers.{IsIdle}
use Rattle.plural_tests.proofs.alloc.work_on.Given as goal

abbrev pub invariant-loop : goal.invariant-loop
invariant-loop l = IsIdle l.words l.worker.seat l.worker.engine
