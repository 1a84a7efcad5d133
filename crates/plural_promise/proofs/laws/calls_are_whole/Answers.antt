use Rattle.plural_promise.proofs.WholeCalls.{calls_are_whole}
use Rattle.plural_promise.proofs.laws.calls_are_whole.Goals as goal

-- An undisturbed call has its whole answer.
pub returns : goal.returns
returns c = calls_are_whole
