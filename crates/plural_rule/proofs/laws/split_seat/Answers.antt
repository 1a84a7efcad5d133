use Rattle.plural_rule.proofs.SeatLaws.{splits_seat}
use Rattle.plural_rule.proofs.laws.split_seat.Goals as goal

-- The answer meets the contract.
pub returns : goal.returns
returns c = splits_seat
