use Rattle.plural_image.proofs.RowRoundTrip.{row_back}
use Rattle.plural_image.proofs.laws.row_round_trip.Goals as goal

-- A printed row is read as that row.
pub returns : goal.returns
returns c = row_back
