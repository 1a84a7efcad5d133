use Rattle.plural_bytes.proofs.LineNumbers.{lines_rise}
use Rattle.plural_bytes.proofs.laws.lines_rise.Goals as goal

-- The numbers of content lines rise.
pub returns : goal.returns
returns c = lines_rise
