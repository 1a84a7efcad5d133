use Rattle.plural_map.proofs.CycleLaws.{one_cycle}
use Rattle.plural_map.proofs.laws.one_cycle.Goals as goal

-- The answer meets the contract.
pub returns : goal.returns
returns c = one_cycle
