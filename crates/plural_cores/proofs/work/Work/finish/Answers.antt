use Rattle.plural_cores.proofs.Turns.{owes_flag, settles_now}
use Rattle.plural_cores.proofs.work.Work.finish.Goals as goal

-- The seat owes that the end be flagged, and nothing else.
pub deliver-requires-clause-owes : goal.deliver-requires-clause-owes
deliver-requires-clause-owes g c = owes_flag _ _ _ _ _ c.requires.work.nothing c.drain.ensures.fixed c.finish.ensures.seat

-- A turn has made the instance done.
pub returns : goal.returns
returns g c = let e = c.deliver.ensures in settles_now _ _ _ _ _ _ _ _ _ c.requires.holds c.requires.work e.of c.drain.ensures.fixed c.finish.ensures.seat e.nothing e.kept c.drain.ensures.drained.running.shape
