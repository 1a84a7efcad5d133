use Rattle.std.proofs.Common.{◌≡◌, ℕ, List, true, length}
use Rattle.std.specs.BTreeMap.{get_by}
use Rattle.std.specs.Cmp.Lexicographic.{slice_cmp}
use Rattle.std.specs.Ordering.{nat_cmp}
use Rattle.plural_map_text.specs.Places.{is_placed}
use Rattle.plural_map_text.proofs.index.unplaced.Given as goal

abbrev pub invariant-loop-name : goal.invariant-loop-name
invariant-loop-name l = (q : List ℕ) → is_placed l.list (length l.list) q (get_by (λ k. slice_cmp nat_cmp q k) l.places) ≡ true
