use Rattle.std.proofs.Common.{ap, sym, subst, ◌∙◌, ◌++◌, take}
use Rattle.plural_bytes.specs.Spelled.{text_lines}
use Rattle.plural_sections.specs.Borders.{IsClosed}
use Rattle.plural_sections.proofs.Cuts.{cut_lines, cut_closed, cut_whole, cut_rest}
use Rattle.plural_sections.proofs.sections.next_section.Goals as goal

-- The section is the lines before the first that closes one.
pub returns-clause-lines : goal.returns-clause-lines
returns-clause-lines c = cut_lines c.args.lines.now c.section_len-n.result c.section_len-n.ensures.len

-- The section and the rest are the lines.
pub returns-clause-whole : goal.returns-clause-whole
returns-clause-whole c = cut_whole c.args.lines.now c.section_len-n.result ∙ ap (λ x. text_lines (take c.section_len-n.result c.args.lines.now) ++ text_lines x) (sym (cut_rest c.args.lines.now c.section_len-n.result))

-- The rest is empty or begins with a line that closes a section.
pub returns-clause-closed : goal.returns-clause-closed
returns-clause-closed c = subst (λ x. IsClosed (text_lines x)) (sym (cut_rest c.args.lines.now c.section_len-n.result)) (cut_closed c.args.lines.now c.section_len-n.result c.section_len-n.ensures.len)
