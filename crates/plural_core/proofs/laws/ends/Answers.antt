use Rattle.plural_core.proofs.Lives.{life_ends}
use Rattle.plural_core.proofs.laws.ends.Goals as goal

-- The answer meets the contract.
pub returns : goal.returns
returns c = λ n p s m o e h. life_ends n p s m o e h
