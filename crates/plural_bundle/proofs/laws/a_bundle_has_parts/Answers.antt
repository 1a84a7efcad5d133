use Rattle.plural_bundle.proofs.BundleParts.{a_bundle_has_parts}
use Rattle.plural_bundle.proofs.laws.a_bundle_has_parts.Goals as goal

-- A bundle is such parts.
pub returns : goal.returns
returns c = a_bundle_has_parts
