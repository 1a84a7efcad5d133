use Rattle.std.proofs.Common.{◌∙◌, sym, ap, not}
use Rattle.plural_trace.proofs.SerialResults.{outcome_test}
use Rattle.plural_trace.proofs.compare.is_other_outcome.Goals as goal

-- The answer meets the contract.
pub returns : goal.returns
returns c = ap not c.is_same_outcome.ensures ∙ sym (outcome_test c.args.serial.now c.args.outcomes.now c.args.i _ _ c.requires.one_each c.requires.i)
