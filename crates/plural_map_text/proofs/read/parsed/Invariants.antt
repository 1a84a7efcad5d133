use Rattle.std.proofs.Common.{take, length}
use Rattle.plural_bytes.specs.Spelled.{text_lines}
use Rattle.plural_map_text.specs.Drafts.{draft_parts}
use Rattle.plural_map_text.proofs.ReadLines.{Reads}
use Rattle.plural_map_text.proofs.read.parsed.Given as goal

abbrev pub invariant-loop-n : goal.invariant-loop-n
invariant-loop-n l = Reads l.version l.labels l.names (length l.lines) (text_lines (take l.n l.lines)) (draft_parts l.draft)
