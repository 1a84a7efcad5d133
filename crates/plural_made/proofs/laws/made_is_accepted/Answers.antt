use Rattle.plural_made.proofs.BundleLines.{made_is_accepted}
use Rattle.plural_made.proofs.laws.made_is_accepted.Goals as goal

-- The map that the text spells has no clash.
pub returns : goal.returns
returns c = made_is_accepted
