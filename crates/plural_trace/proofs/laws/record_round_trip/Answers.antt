use Rattle.plural_trace.proofs.RecordWords.{record_round_trip}
use Rattle.plural_trace.proofs.laws.record_round_trip.Goals as goal

-- The answer meets the contract.
pub returns : goal.returns
returns c = record_round_trip
