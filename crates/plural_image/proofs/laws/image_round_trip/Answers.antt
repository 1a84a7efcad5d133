use Rattle.plural_image.proofs.ImageRoundTrip.{image_round_trip}
use Rattle.plural_image.proofs.laws.image_round_trip.Goals as goal

-- A printed image is read as that image.
pub returns : goal.returns
returns c = image_round_trip
