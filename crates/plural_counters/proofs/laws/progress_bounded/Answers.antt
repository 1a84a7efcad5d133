use Rattle.plural_counters.proofs.SoundViews.{progress_bounded}
use Rattle.plural_counters.proofs.laws.progress_bounded.Goals as goal

-- The answer meets the contract.
pub returns : goal.returns
returns c = progress_bounded
