-- The tasks that an order reaches, as flags beside their numbers.
use Rattle.std.specs.Prelude.{ℕ, ◌≡◌, false, Bool, List, length, slice_index_or}
use Rattle.plural_map.specs.Order.{is_among}

-- There are 256 flags, and they tell of each number whether it is one of the list.
pub record Tells (flags : List Bool) (reached : List ℕ) : Type 0 where
  pub count : length flags ≡ 256
  pub each : (t : ℕ) → slice_index_or flags t false ≡ is_among t reached
