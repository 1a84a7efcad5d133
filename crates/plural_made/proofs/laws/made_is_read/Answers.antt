use Rattle.plural_made.proofs.BundleLines.{made_is_read}
use Rattle.plural_made.proofs.laws.made_is_read.Goals as goal

-- The text is a bundle without a fault, and spells the bundle of its seed.
pub returns : goal.returns
returns c = made_is_read
