use Rattle.plural_counters.proofs.SoundViews.{views_are_sound}
use Rattle.plural_counters.proofs.laws.views_are_sound.Goals as goal

-- The answer meets the contract.
pub returns : goal.returns
returns g c = views_are_sound
