use Rattle.plural_generator.proofs.MapRoundTrip.{map_round_trip}
use Rattle.plural_generator.proofs.laws.map_round_trip.Goals as goal

-- The map that is made is read as that map.
pub returns : goal.returns
returns c = map_round_trip
