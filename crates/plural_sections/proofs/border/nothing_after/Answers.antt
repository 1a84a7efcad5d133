use Rattle.std.proofs.Common.{sym}
use Rattle.plural_sections.proofs.Cuts.{all_blank, left_over}
use Rattle.plural_sections.proofs.border.nothing_after.Goals as goal

-- No line has a text if none is found.
pub returns-in-None : goal.returns-in-None
returns-in-None c = all_blank c.args.lines.now (sym c.in-None.ensures)

-- The line that is found is the first with a text.
pub returns-in-Some : goal.returns-in-Some
returns-in-Some c = left_over c.args.lines.now c.in-Some.n _ (sym c.in-Some.ensures)
