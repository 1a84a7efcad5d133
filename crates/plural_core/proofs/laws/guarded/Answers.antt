use Rattle.plural_core.proofs.Guards.{guarded_life}
use Rattle.plural_core.proofs.laws.guarded.Goals as goal

-- The answer meets the contract.
pub returns : goal.returns
returns c = λ i p s m. guarded_life i p s m
