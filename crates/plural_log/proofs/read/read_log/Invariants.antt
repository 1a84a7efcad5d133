use Rattle.std.proofs.Common.{take}
use Rattle.plural_bytes.specs.Spelled.{text_lines}
use Rattle.plural_log.specs.Spelled.{log_by}
use Rattle.plural_log.proofs.Reading.{Reads}
use Rattle.plural_log.proofs.read.read_log.Given as goal

abbrev pub invariant-loop-n : goal.invariant-loop-n
invariant-loop-n l = Reads l.map.tasks (text_lines (take l.n l.lines)) (log_by l.cores l.outcomes.items l.entries.items)
