use Rattle.plural_regions.proofs.Regions.{reads_iff}
use Rattle.plural_regions.proofs.laws.reads.Goals as goal

-- The answer meets the contract.
pub returns : goal.returns
returns c = λ regions k a. reads_iff regions k a
