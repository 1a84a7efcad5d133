use Rattle.std.proofs.Common.{◌≡◌, ◌≤◌, ◌*◌, ℕ, List, None, take}
use Rattle.std.specs.Prelude.{is_some, if◌then◌else◌}
use Rattle.std.specs.BTreeMap.{get_by}
use Rattle.std.specs.Cmp.Lexicographic.{slice_cmp}
use Rattle.std.specs.Ordering.{nat_cmp}
use Rattle.plural_bytes.specs.Spelled.{text_lines}
use Rattle.plural_asm.specs.Labels.{place_of, place_after}
use Rattle.plural_asm.proofs.places.told_places.Given as goal

abbrev pub invariant-loop-line : goal.invariant-loop-line
invariant-loop-line l = record {
  known : (q : List ℕ) → get_by (λ k. slice_cmp nat_cmp q k) l.places
      ≡ (if is_some (get_by (λ k. slice_cmp nat_cmp q k) l.told) then place_of (text_lines (take l.line-index l.lines)) q else None);
  place : l.place ≡ place_after (text_lines (take l.line-index l.lines));
  small : l.place ≤ 2 * l.line-index;
}
