use Rattle.plural_log.proofs.Ranges.{run_fits}
use Rattle.plural_log.proofs.read.add_line.Goals as goal

-- The number of the instance is in its range.
pub entry_value-requires-clause-k : goal.entry_value-requires-clause-k
entry_value-requires-clause-k c = (run_fits c.in-Run.name c.in-Run.k c.in-Run.end c.in-Run.counts c.in-Run.times (rw c.in-Run.is at c.requires.range)).number

-- So is the cause of a trap.
pub entry_value-requires-clause-end : goal.entry_value-requires-clause-end
entry_value-requires-clause-end c = (run_fits c.in-Run.name c.in-Run.k c.in-Run.end c.in-Run.counts c.in-Run.times (rw c.in-Run.is at c.requires.range)).ended

-- So are the counts.
pub entry_value-requires-clause-counts : goal.entry_value-requires-clause-counts
entry_value-requires-clause-counts c = (run_fits c.in-Run.name c.in-Run.k c.in-Run.end c.in-Run.counts c.in-Run.times (rw c.in-Run.is at c.requires.range)).counts

-- So are the core and the tickets.
pub entry_value-requires-clause-times : goal.entry_value-requires-clause-times
entry_value-requires-clause-times c = (run_fits c.in-Run.name c.in-Run.k c.in-Run.end c.in-Run.counts c.in-Run.times (rw c.in-Run.is at c.requires.range)).times
