use Rattle.std.proofs.Common.{take}
use Rattle.plural_bytes.specs.Spelled.{text_lines}
use Rattle.plural_image.proofs.ReadImage.{Reads}
use Rattle.plural_image.proofs.read.read_image.Given as goal

abbrev pub invariant-loop-line : goal.invariant-loop-line
invariant-loop-line l = Reads l.w (text_lines (take l.line-index l.lines)) l.words.items l.floor
