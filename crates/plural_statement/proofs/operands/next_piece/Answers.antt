use Rattle.std.proofs.Common.{◌+◌, sym, ◌∙◌}
use Rattle.std.proofs.lemmas.List.{take_rest}
use Rattle.plural_statement.specs.Operands.{is_comma}
use Rattle.plural_bytes.proofs.Cuts.{cut_found, uncut_whole}
use Rattle.plural_statement.proofs.operands.next_piece.Goals as goal

-- The first comma ends the first piece.
pub returns-in-Some : goal.returns-in-Some
returns-in-Some c = rw (take_rest c.args.text.now (c.in-Some.i + 1)) (cut_found is_comma c.args.text.now c.in-Some.i (sym c.find_comma.ensures ∙ c.in-Some.is))

-- A text without a comma is one piece.
pub returns-in-None : goal.returns-in-None
returns-in-None c = uncut_whole is_comma c.args.text.now (sym c.find_comma.ensures ∙ c.in-None.is)
