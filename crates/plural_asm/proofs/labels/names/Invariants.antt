use Rattle.std.proofs.Common.{◌≡◌, take}
use Rattle.plural_bytes.specs.Spelled.{text_lines}
use Rattle.plural_asm.specs.Labels.{names_of}
use Rattle.plural_asm.proofs.labels.names.Given as goal

abbrev pub invariant-loop-line : goal.invariant-loop-line
invariant-loop-line l = l.names.items ≡ names_of (text_lines (take l.line-index l.lines))
