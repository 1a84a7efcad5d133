use Rattle.plural_bytes.specs.Lines.{is_line_end}
use Rattle.plural_bytes.proofs.ByteSearches.{search_is}
use Rattle.plural_bytes.proofs.lines.find_line_end.Goals as goal

-- The first line ends at the byte that is found.
pub returns : goal.returns
returns c = search_is is_line_end c.args.text.now c.memchr.result c.memchr.ensures
