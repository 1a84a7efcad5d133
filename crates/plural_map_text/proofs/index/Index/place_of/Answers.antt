use Rattle.std.proofs.Common.{sym, ◌∙◌, arith}
use Rattle.plural_map_text.proofs.PlacedNames.{placed_at, place_within}
use Rattle.plural_map_text.proofs.index.Index.place_of.Goals as goal

-- A place that is known is the first.
pub returns-in-Some-clause-place : goal.returns-in-Some-clause-place
returns-in-Some-clause-place c = rw (← c.self.view_is) (placed_at c.self.inside.list.now c.args.name.now _ c.in-Some.place (sym c.get.ensures.value ∙ sym c.copied.ensures ∙ c.in-Some.is) (c.self.invariant c.args.name.now))

-- It is no more than the length.
pub returns-in-Some-clause-bound : goal.returns-in-Some-clause-bound
returns-in-Some-clause-bound c = omega (arith, returns-in-Some-clause-place c, place_within c.args.self.now c.args.name.now)

-- Nor is one that is looked for in the list.
pub returns-in-None-clause-bound : goal.returns-in-None-clause-bound
returns-in-None-clause-bound c = rw (← c.self.view_is) (omega (arith, c.first_place.ensures, place_within c.self.inside.list.now c.args.name.now))
