-- The verdict on one line.
use Rattle.std.proofs.Common.{◌≡◌, ℕ, ◌<◌, ◌≤◌, false, Some, None, Option, List, arith}
use Rattle.std.proofs.lemmas.Bool.{both_ways}
use Rattle.plural_regions.specs.declared.region.Region.{Region}
use Rattle.plural_regions.specs.Bounds.{AllInside, IsLeastOutside}
use Rattle.plural_map_text.specs.declared.line.MapLine.{MapLine}
use Rattle.plural_map_text.specs.declared.line.MapLine.TheVariants as line
use Rattle.plural_map_text.specs.declared.fault.MapKind.{MapKind}
use Rattle.plural_map_text.specs.declared.fault.MapKind.TheVariants as kinds
use Rattle.plural_map.specs.Value.{TaskValue}
use Rattle.plural_map_text.specs.Parts.{Parts}
use Rattle.plural_map_text.specs.RegionOf.{region_of}
use Rattle.plural_map_text.specs.Rules.{is_out_of_place, is_out_of_range, is_misnamed, is_too_many, IsOutsideAt, HasKind}
use Rattle.plural_map_text.specs.Verdicts.{IsInsideAt}

-- A region that lies inside the memory for all instances has no instance outside.
inside_has_none : (r : Region) (q w k : ℕ) → AllInside r q w → IsLeastOutside r q w k → ⊥
inside_has_none r q w k i o =
    let a = o.outside.0 in
    let below : a < w = i k o.below a o.outside.2 in
    let above : w ≤ a = o.outside.1 in
    omega arith

-- If the current task's instances lie inside, none is outside.
not_outside : (p : Parts) (s : MapLine) (k : ℕ) → IsInsideAt p s → IsOutsideAt p s k → ⊥
not_outside p (line.Memory words) k i o = o
not_outside p (line.Cache sets ways) k i o = o
not_outside p (line.Task name kind entry budget) k i o = o
not_outside p (line.After name when) k i o = o
not_outside p line.Join k i o = o
not_outside p (line.Region mode base stride count) k i o = by_task p.current i o
  where
    by_task : (t : Option TaskValue) → IsInsideAt (record p { current = t }) (line.Region mode base stride count) → IsOutsideAt (record p { current = t }) (line.Region mode base stride count) k → ⊥
    by_task None i o = o
    by_task (Some t) i o = inside_has_none (region_of mode base stride count) t.quota p.words k i o

-- A line that passes all tests has no fault.
pub no_kind : (version : ℕ) (labels names : List (List ℕ)) (n : ℕ) (p : Parts) (s : MapLine) → is_out_of_place version n p s ≡ false → is_out_of_range version s ≡ false → is_misnamed version labels names p s ≡ false → is_too_many version p s ≡ false
    → IsInsideAt p s → (k : MapKind) → HasKind version labels names n p s k → ⊥
no_kind version labels names n p s a b c d i kinds.Form h = both_ways _ a h
no_kind version labels names n p s a b c d i kinds.Number h = both_ways _ b h
no_kind version labels names n p s a b c d i kinds.Name h = both_ways _ c h
no_kind version labels names n p s a b c d i kinds.Count h = both_ways _ d h
no_kind version labels names n p s a b c d i (kinds.Outside k) h = not_outside p s k i h
no_kind version labels names n p s a b c d i (kinds.Cycle cycle) h = h
