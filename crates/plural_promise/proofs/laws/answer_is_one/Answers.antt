use Rattle.plural_promise.proofs.OneAnswer.{answer_is_one}
use Rattle.plural_promise.proofs.laws.answer_is_one.Goals as goal

-- The answer to an input is one.
pub returns : goal.returns
returns c = answer_is_one
