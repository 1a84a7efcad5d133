use Rattle.std.proofs.Common.{◌≡◌, ◌<◌, take, length}
use Rattle.plural_bytes.specs.Spelled.{text_lines}
use Rattle.plural_map_text.specs.Parts.{task_names}
use Rattle.plural_map_text.proofs.read.task_names.Given as goal

abbrev pub invariant-loop-line : goal.invariant-loop-line
invariant-loop-line l = record {
  so_far : l.names.items ≡ task_names (text_lines (take l.line-index l.lines));
  few : length l.names.items < 4294967296;
}
