use Rattle.std.proofs.Common.{◌≡◌, ◌+◌, ◌≤◌, ◌++◌, length}
use Rattle.plural_bytes.specs.Lines.{pieces, content_lines, content_from}
use Rattle.plural_bytes.specs.Spelled.{text_lines}
use Rattle.plural_bytes.proofs.lines.split.Given as goal

abbrev pub invariant-loop-rest : goal.invariant-loop-rest
invariant-loop-rest l = record {
  so_far : text_lines l.lines.items ++ content_from l.number (pieces l.rest) ≡ content_lines l.fn.text;
  small : l.number + length l.rest ≤ length l.fn.text + 1;
}

abbrev pub decreases-loop-rest : goal.decreases-loop-rest
decreases-loop-rest l = length l.rest
