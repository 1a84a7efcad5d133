use Rattle.plural_cores.proofs.CoreTurns.{turned_now}
use Rattle.plural_cores.proofs.core_.Core.turn.Goals as goal

-- The turn of the work is the core's.
pub returns : goal.returns
returns g c = turned_now _ _ _ _ _ _ _ _ _ c.self.view_is c.in-Some.is c.turn.ensures
