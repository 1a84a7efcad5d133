use Rattle.plural_statement.proofs.Pieces.{two_more}
use Rattle.plural_statement.proofs.operands.two.Goals as goal

-- A third piece is one too many.
pub returns-in-Some : goal.returns-in-Some
returns-in-Some c = two_more c.args.text.now _ c.in_ok-rest.field-0.now _ c.in-Some.field-0.now (rw c.in_ok-rest.was at c.next_piece.ensures) (rw c.in-Some.is at c.next_piece-2.ensures)
