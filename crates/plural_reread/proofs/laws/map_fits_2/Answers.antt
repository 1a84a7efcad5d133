use Rattle.plural_reread.proofs.FaultlessMaps.{map_fits_2}
use Rattle.plural_reread.proofs.laws.map_fits_2.Goals as goal

-- The map of lines without a fault is within all limits.
pub returns : goal.returns
returns c = map_fits_2
