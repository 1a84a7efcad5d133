use Rattle.plural_map_text.proofs.PlacedNames.{placed_inside}
use Rattle.plural_map_text.proofs.index.Index.has.Goals as goal

-- A place inside the list is that of a name of it.
pub returns : goal.returns
returns c = rw (c.place_of.ensures.place, c.self.view_is) (placed_inside c.args.self.now c.args.name.now)
