use Rattle.plural_bytes.specs.Lines.{is_hash}
use Rattle.plural_bytes.proofs.ByteSearches.{search_is}
use Rattle.plural_bytes.proofs.lines.find_hash.Goals as goal

-- A comment begins at the byte that is found.
pub returns : goal.returns
returns c = search_is is_hash c.args.text.now c.memchr.result c.memchr.ensures
