use Rattle.plural_rule.proofs.SeatLaws.{joins_seat}
use Rattle.plural_rule.proofs.laws.join_seat.Goals as goal

-- The answer meets the contract.
pub returns : goal.returns
returns c = joins_seat
