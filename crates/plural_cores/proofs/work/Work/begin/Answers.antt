use Rattle.plural_cores.proofs.Turns.{begins_now}
use Rattle.plural_cores.proofs.work.Work.begin.Goals as goal

-- A turn has begun the instance.
pub returns : goal.returns
returns g c = let e = c.begin.ensures in begins_now _ _ _ _ _ _ _ c.requires.holds c.requires.work e.of e.seat e.going e.none
