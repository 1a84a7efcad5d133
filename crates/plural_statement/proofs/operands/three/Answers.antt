use Rattle.plural_statement.proofs.Pieces.{three_more}
use Rattle.plural_statement.proofs.operands.three.Goals as goal

-- A fourth piece is one too many.
pub returns-in-Some : goal.returns-in-Some
returns-in-Some c =
    three_more c.args.text.now _ c.in_ok-rest.field-0.now _ c.in_ok-rest-2.field-0.now _ c.in-Some.field-0.now (rw c.in_ok-rest.was at c.next_piece.ensures) (rw c.in_ok-rest-2.was at c.next_piece-2.ensures)
    (rw c.in-Some.is at c.next_piece-3.ensures)
