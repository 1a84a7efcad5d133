-- The map lines of the bundle, read again.
use Rattle.std.proofs.Common.{refl}
use Rattle.std.specs.Fmt.{digits}
use Rattle.plural_map.specs.Order.{order_from}
use Rattle.plural_generator.specs.Tasks.{made_map}
use Rattle.plural_generator.specs.Laws.{MapRoundTrip}

-- The map lines spell the map: this computes.
pub map_round_trip : MapRoundTrip
unfolding made_map order_from digits
map_round_trip = refl
