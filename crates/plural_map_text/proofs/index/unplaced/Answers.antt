use Rattle.plural_map_text.proofs.PlacedNames.{unplaced_more}
use Rattle.plural_map_text.proofs.index.unplaced.Goals as goal

-- One more name is put at the end.
pub loop-name-preserved : goal.loop-name-preserved
loop-name-preserved c = λ q. unplaced_more c.args.list.now _ q _ _ (c.in_ok-insert.ensures.updates.0 q) (c.loop-name.invariant q)
