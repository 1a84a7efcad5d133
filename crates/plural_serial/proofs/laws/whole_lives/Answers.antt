use Rattle.plural_serial.proofs.WholeLives.{whole_lives}
use Rattle.plural_serial.proofs.laws.whole_lives.Goals as goal

-- The answer meets the contract.
pub returns : goal.returns
returns c = whole_lives
