use Rattle.std.proofs.Common.{take}
use Rattle.plural_bytes.specs.Spelled.{text_lines}
use Rattle.plural_cli.proofs.WordLines.{Words}
use Rattle.plural_cli.proofs.disassembling.disassembled.Given as goal

abbrev pub invariant-loop-line : goal.invariant-loop-line
invariant-loop-line l = Words (text_lines (take l.line-index l.lines)) l.count l.text.items
