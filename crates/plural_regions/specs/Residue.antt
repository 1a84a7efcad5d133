-- Which multiples of a number, shifted by another, leave a small remainder.
use Rattle.std.specs.Prelude.{ℕ, ◌+◌, ◌*◌, ◌%◌, ◌<◌, ◌≤◌}

-- The number x is the least below n with (a · x + b) mod m ≤ hi.
pub record IsLeastResidue (n a b m hi x : ℕ) : Type 0 where
  pub below : x < n
  pub small : (a * x + b) % m ≤ hi
  pub least : (y : ℕ) → y < x → hi < (a * y + b) % m

-- No number x below n has (a · x + b) mod m ≤ hi.
abbrev pub HasNoResidue : (n a b m hi : ℕ) → Type 0
HasNoResidue n a b m hi = (x : ℕ) → x < n → hi < (a * x + b) % m
