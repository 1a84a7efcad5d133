use Rattle.std.proofs.Common.{◌≡◌, ◌++◌, take}
use Rattle.std.specs.List.{flat_map}
use Rattle.plural_map_text.specs.Print.{region_text}
use Rattle.plural_map_text.proofs.printing.put_regions.Given as goal

abbrev pub invariant-loop-region : goal.invariant-loop-region
invariant-loop-region l = l.out.items ≡ l.fn.out.items ++ flat_map region_text (take l.region-index l.regions)
