use Rattle.plural_map.proofs.CycleLaws.{cycle_or_whole}
use Rattle.plural_map.proofs.laws.cycle_or_whole.Goals as goal

-- The answer meets the contract.
pub returns : goal.returns
returns c = cycle_or_whole
