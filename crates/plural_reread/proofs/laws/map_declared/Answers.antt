use Rattle.plural_reread.proofs.FaultlessMaps.{map_declared}
use Rattle.plural_reread.proofs.laws.map_declared.Goals as goal

-- Each task depends on earlier ones alone.
pub returns : goal.returns
returns c = map_declared
