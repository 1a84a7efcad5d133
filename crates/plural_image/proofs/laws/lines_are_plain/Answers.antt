use Rattle.plural_image.proofs.PlainLines.{lines_are_plain}
use Rattle.plural_image.proofs.laws.lines_are_plain.Goals as goal

-- Image lines have plain bytes alone.
pub returns : goal.returns
returns c = lines_are_plain
