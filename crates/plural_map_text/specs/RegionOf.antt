-- The region of numbers that a map line spells.
use Rattle.std.specs.Prelude.{ℕ, ◌+◌, ◌-◌, ◌≤◌, min}
use Rattle.std.proofs.Math.Nat.{min-le_right, le-add_right}
use Rattle.std.proofs.Common.{arith}
use Rattle.plural_regions.specs.declared.region.Region.{Region}
use Rattle.plural_regions.specs.declared.region.Mode.{Mode}

-- A count that is one more than a number of at most 1,048,575 is at most 1,048,576.
pub one_more_limit : (n : ℕ) → 1 + min n 1048575 ≤ 1048576
one_more_limit n = omega (arith, min-le_right n 1048575)

-- The region of this mode, base, stride and count. A number that no region can have is brought to the nearest that one
-- can; lines with such numbers have a fault.
abbrev pub region_of : Mode → (base stride count : ℕ) → Region
region_of mode base stride count = record {
  mode = mode;
  base = min base 1048575;
  stride = min stride 1048575;
  count = 1 + min (count - 1) 1048575;
  base_limit = min-le_right base 1048575;
  stride_limit = min-le_right stride 1048575;
  nonempty = le-add_right 1 (min (count - 1) 1048575);
  count_limit = one_more_limit (count - 1);
}
