use Rattle.plural_cores.proofs.CoreTurns.{left_now}
use Rattle.plural_cores.proofs.core_.Core.work_until_left.Goals as goal

-- The core has left, with its seat.
pub returns-clause-left : goal.returns-clause-left
returns-clause-left g c = left_now _ _ _ _ _ _ _ _ c.self.view_is c.in-Some.is c.until_left.ensures
