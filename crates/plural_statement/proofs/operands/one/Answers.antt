use Rattle.plural_statement.proofs.Pieces.{one_more}
use Rattle.plural_statement.proofs.operands.one.Goals as goal

-- A second piece is one too many.
pub returns-in-Some : goal.returns-in-Some
returns-in-Some c = one_more c.args.text.now _ c.in-Some.field-0.now (rw c.in-Some.is at c.next_piece.ensures)
