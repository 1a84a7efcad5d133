use Rattle.plural_cores.proofs.Turns.{goes_on_now, is_over_now}
use Rattle.plural_cores.proofs.work.Work.step.Goals as goal

-- A turn was the last instruction of the instance.
pub returns-in-Some : goal.returns-in-Some
returns-in-Some c = let e = c.in-Some.ensures in is_over_now _ _ _ _ _ _ _ c.requires.holds c.requires.work e.of e.fixed e.one e.turned

-- A turn was an instruction of the instance, which goes on.
pub returns-in_default : goal.returns-in_default
returns-in_default c = let e = c.in_default.ensures in goes_on_now _ _ _ _ _ _ c.requires.holds c.requires.work e.of e.fixed e.one e.turned.0 e.turned.1
