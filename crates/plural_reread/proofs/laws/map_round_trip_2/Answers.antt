use Rattle.plural_reread.proofs.RoundTrip.{map_round_trip_2}
use Rattle.plural_reread.proofs.laws.map_round_trip_2.Goals as goal

-- A printed map is read as that map.
pub returns : goal.returns
returns c = map_round_trip_2
