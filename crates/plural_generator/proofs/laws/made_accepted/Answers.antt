use Rattle.plural_generator.proofs.NoClash.{made_accepted}
use Rattle.plural_generator.proofs.laws.made_accepted.Goals as goal

-- The map that is made has no clash.
pub returns : goal.returns
returns c = made_accepted
