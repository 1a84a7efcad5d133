use Rattle.plural_trace.proofs.CoreSweep.{Swept}
use Rattle.plural_trace.proofs.cores.busy_fault.Given as goal

abbrev pub invariant-loop-ticket : goal.invariant-loop-ticket
invariant-loop-ticket l = Swept l.entries l.m l.cores l.ticket l.first l.last.items
