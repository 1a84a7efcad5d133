use Rattle.plural_made.proofs.CodeSize.{made_code}
use Rattle.plural_made.proofs.laws.made_code.Goals as goal

-- The code has 78 words, and the tasks begin at these bytes.
pub returns : goal.returns
returns c = made_code
