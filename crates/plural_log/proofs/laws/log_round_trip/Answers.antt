use Rattle.plural_log.proofs.RoundTrip.{log_round_trip}
use Rattle.plural_log.proofs.laws.log_round_trip.Goals as goal

-- A printed log is read as that log.
pub returns : goal.returns
returns c = log_round_trip
