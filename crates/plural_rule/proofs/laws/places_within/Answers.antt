use Rattle.plural_rule.proofs.Writes.{places_within}
use Rattle.plural_rule.proofs.laws.places_within.Goals as goal

-- The answer meets the contract.
pub returns : goal.returns
returns c = places_within
