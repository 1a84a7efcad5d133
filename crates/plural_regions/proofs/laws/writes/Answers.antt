use Rattle.plural_regions.proofs.Regions.{writes_iff}
use Rattle.plural_regions.proofs.laws.writes.Goals as goal

-- The answer meets the contract.
pub returns : goal.returns
returns c = λ regions k a. writes_iff regions k a
