use Rattle.plural_core.proofs.Footprint.{alike_life}
use Rattle.plural_core.proofs.laws.footprint.Goals as goal

-- The answer meets the contract.
pub returns : goal.returns
returns c = λ i p s m n h. alike_life i p s m n h
