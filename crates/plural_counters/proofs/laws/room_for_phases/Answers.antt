use Rattle.plural_counters.proofs.SoundViews.{room_for_phases}
use Rattle.plural_counters.proofs.laws.room_for_phases.Goals as goal

-- The answer meets the contract.
pub returns : goal.returns
returns c = room_for_phases
