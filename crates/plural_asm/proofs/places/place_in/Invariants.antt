use Rattle.std.proofs.Common.{◌≡◌, ◌≤◌, ◌*◌, take}
use Rattle.plural_bytes.specs.Spelled.{text_lines}
use Rattle.plural_asm.specs.Labels.{place_of, place_after}
use Rattle.plural_asm.proofs.places.place_in.Given as goal

abbrev pub invariant-loop-line : goal.invariant-loop-line
invariant-loop-line l = record {
  known : l.found ≡ place_of (text_lines (take l.line-index l.lines)) l.name;
  place : l.place ≡ place_after (text_lines (take l.line-index l.lines));
  small : l.place ≤ 2 * l.line-index;
}
