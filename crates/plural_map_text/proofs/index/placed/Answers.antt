use Rattle.std.proofs.Common.{sym, ◌∙◌, arith}
use Rattle.plural_map_text.proofs.PlacedNames.{placed_more, placed_same}
use Rattle.plural_map_text.proofs.index.placed.Goals as goal

-- A name that is asked for gets this place.
pub loop-at-preserved-in_ok-insert : goal.loop-at-preserved-in_ok-insert
loop-at-preserved-in_ok-insert c = record {
  known = λ q. placed_more c.args.list.now c.loop-at.at _ _ q _ _ c.loop-at-test.true c.loop-at.invariant.inside c.index-list-at.is (c.in_ok-insert.ensures.updates.0 q) (c.loop-at.invariant.known q);
  inside = omega (arith, c.loop-at.invariant.inside);
}

-- Another one leaves the places.
pub loop-at-preserved : goal.loop-at-preserved
loop-at-preserved c = record {
  known =
      λ q. placed_same c.args.list.now c.loop-at.at _ _ q _ c.loop-at-test.true c.loop-at.invariant.inside c.index-list-at.is
      (λ same. rw (← same) (sym c.contains_key.ensures ∙ c.if-contains_key.false)) (c.loop-at.invariant.known q);
  inside = omega (arith, c.loop-at.invariant.inside);
}
