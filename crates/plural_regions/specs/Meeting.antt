-- Where two regions meet: the words that an instance of each of them has.
use Rattle.std.specs.Prelude.{ℕ, ◌≡◌, ◌<◌, ◌≤◌, Bool, true}
use Rattle.plural_regions.specs.Rights.{IsIn}
use Rattle.plural_regions.specs.declared.region.Region.{Region}

-- Instance k of r, below q1, and instance l of s, below q2, have word a; within one task k is below l.
pub record Meets (r : Region) (q1 : ℕ) (s : Region) (q2 : ℕ) (same_task : Bool) (k l a : ℕ) : Type 0 where
  pub first_below : k < q1
  pub second_below : l < q2
  pub in_order : same_task ≡ true → k < l
  pub in_first : IsIn r k a
  pub in_second : IsIn s l a

-- The triple (k, l, a) is no later than (i, j, b): by the first numbers, if these are the same by the second, and
-- if these are the same too by the third.
pub record IsNoLater (k l a i j b : ℕ) : Type 0 where
  pub first : k ≤ i
  pub second : k ≡ i → l ≤ j
  pub third : k ≡ i → l ≡ j → a ≤ b

-- (k, l, a) is the least triple at which the regions meet.
pub record IsLeastMeet (r : Region) (q1 : ℕ) (s : Region) (q2 : ℕ) (same_task : Bool) (k l a : ℕ) : Type 0 where
  pub meets : Meets r q1 s q2 same_task k l a
  pub least : (i j b : ℕ) → Meets r q1 s q2 same_task i j b → IsNoLater k l a i j b

-- The regions meet at no triple.
abbrev pub NeverMeet : Region → ℕ → Region → ℕ → Bool → Type 0
NeverMeet r q1 s q2 same_task = (k l a : ℕ) → Meets r q1 s q2 same_task k l a → ⊥
