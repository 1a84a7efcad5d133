use Rattle.std.proofs.Common.{◌+◌, ◌≤◌, ◌∙◌, sym, length, arith}
use Rattle.std.proofs.lemmas.List.{take_rest, drop_all}
use Rattle.plural_bytes.proofs.Cuts.{pieces_at, pieces_rest}
use Rattle.plural_bytes.proofs.lines.next_piece.Goals as goal

-- The first line ends at the first LF.
pub returns-in-Some-clause-pieces : goal.returns-in-Some-clause-pieces
returns-in-Some-clause-pieces c = rw (take_rest c.args.text.now (c.in-Some.i + 1)) (pieces_at c.args.text.now c.in-Some.i (sym c.find_line_end.ensures ∙ c.in-Some.is))

-- A text without LF is one line.
pub returns-in-None-clause-pieces : goal.returns-in-None-clause-pieces
returns-in-None-clause-pieces c =
    let none : length c.args.text.now ≤ length c.args.text.now = omega arith in
    rw (take_rest c.args.text.now (length c.args.text.now), drop_all (length c.args.text.now) c.args.text.now none) (pieces_rest c.args.text.now (sym c.find_line_end.ensures ∙ c.in-None.is) c.requires)
