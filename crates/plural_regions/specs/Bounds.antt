-- Which instances of a region lie inside a memory.
use Rattle.std.specs.Prelude.{ℕ, ◌<◌, ◌≤◌}
use Rattle.plural_regions.specs.Rights.{IsIn}
use Rattle.plural_regions.specs.declared.region.Region.{Region}

-- Each word of instance k is below w.
abbrev pub IsInside : Region → ℕ → ℕ → Type 0
IsInside r k w = (a : ℕ) → IsIn r k a → a < w

-- Some word of instance k is w or more.
abbrev pub IsOutside : Region → ℕ → ℕ → Type 0
IsOutside r k w = (a : ℕ) × (w ≤ a) × IsIn r k a

-- Each instance below q lies inside a memory of w words.
abbrev pub AllInside : Region → ℕ → ℕ → Type 0
AllInside r q w = (k : ℕ) → k < q → IsInside r k w

-- Instance k is the least below q that doesn't lie inside a memory of w words.
pub record IsLeastOutside (r : Region) (q w k : ℕ) : Type 0 where
  pub below : k < q
  pub outside : IsOutside r k w
  pub least : AllInside r k w
