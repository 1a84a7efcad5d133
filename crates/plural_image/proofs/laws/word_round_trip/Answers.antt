use Rattle.plural_image.proofs.RowRoundTrip.{word_back}
use Rattle.plural_image.proofs.laws.word_round_trip.Goals as goal

-- A printed word is read as that word.
pub returns : goal.returns
returns c = word_back
