use Rattle.std.proofs.Common.{◌≡◌, ◌≤◌, ℕ, List, true, length}
use Rattle.std.specs.BTreeMap.{get_by}
use Rattle.std.specs.Cmp.Lexicographic.{slice_cmp}
use Rattle.std.specs.Ordering.{nat_cmp}
use Rattle.plural_map_text.specs.Places.{is_placed}
use Rattle.plural_map_text.proofs.index.placed.Given as goal

abbrev pub invariant-loop-at : goal.invariant-loop-at
invariant-loop-at l = record {
  known : (q : List ℕ) → is_placed l.list l.at q (get_by (λ k. slice_cmp nat_cmp q k) l.places) ≡ true;
  inside : l.at ≤ length l.list;
}

abbrev pub decreases-loop-at : goal.decreases-loop-at
decreases-loop-at l = l.at
