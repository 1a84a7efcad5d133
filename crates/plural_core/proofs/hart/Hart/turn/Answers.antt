use Rattle.plural_core.proofs.hart.Hart.turn.Goals as goal

-- The call of `turn_by` has what its clause `recent` requires.
pub turn_by-turn-requires-clause-recent : goal.turn_by-turn-requires-clause-recent
turn_by-turn-requires-clause-recent g c = c.none-recent.ensures c.args.regions.now c.self.inside.at.k
