-- What holds of the order of a map. (This project's own.)
use Rattle.std.specs.Prelude.{ℕ, ◌≡◌, ◌≢◌, ◌<◌, true, length}
use Rattle.std.specs.List.{All, AllPairs}
use Rattle.plural_map.specs.Value.{MapValue}
use Rattle.plural_map.specs.Order.{is_among}
use Rattle.plural_map.specs.Limits.{IsMap}

-- The order has the number of each task, and of each once.
pub record IsWholeOrder (m : MapValue) : Type 0 where
  pub reaches : (t : ℕ) → t < length m.tasks → is_among t m.order ≡ true
  pub within : All (λ t. t < length m.tasks) m.order
  pub differ : AllPairs (λ t u. t ≢ u) m.order
  pub one_each : length m.order ≡ length m.tasks

-- So it is of every map within its limits.
abbrev pub WholeOrder : Type 0
WholeOrder = (m : MapValue) → IsMap m → IsWholeOrder m
