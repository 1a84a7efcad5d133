use Rattle.plural_bundle.proofs.BundleParts.{parts_make_a_bundle}
use Rattle.plural_bundle.proofs.laws.parts_make_a_bundle.Goals as goal

-- Parts without a fault, one after the other, are a bundle.
pub returns : goal.returns
returns c = parts_make_a_bundle
