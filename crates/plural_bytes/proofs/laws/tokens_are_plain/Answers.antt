use Rattle.plural_bytes.proofs.PlainBytes.{tokens_are_plain}
use Rattle.plural_bytes.proofs.laws.tokens_are_plain.Goals as goal

-- Tokens have plain bytes alone.
pub returns : goal.returns
returns c = tokens_are_plain
