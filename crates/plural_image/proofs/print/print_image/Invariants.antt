use Rattle.std.proofs.Common.{◌≡◌, ◌*◌, take, drop}
use Rattle.std.specs.Prelude.{flat_map}
use Rattle.std.specs.List.{range_with_len}
use Rattle.plural_image.specs.Print.{row_lines}
use Rattle.plural_image.proofs.print.print_image.Given as goal

abbrev pub invariant-loop-r : goal.invariant-loop-r
invariant-loop-r l = l.out.items ≡ flat_map (λ r. row_lines (8 * r) (take 8 (drop (8 * r) l.image))) (range_with_len 0 l.r)
