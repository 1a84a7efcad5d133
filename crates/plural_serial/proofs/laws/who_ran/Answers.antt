use Rattle.plural_serial.proofs.Stretches.{which_ran}
use Rattle.plural_serial.proofs.laws.who_ran.Goals as goal

-- The answer meets the contract.
pub returns : goal.returns
returns c = which_ran
