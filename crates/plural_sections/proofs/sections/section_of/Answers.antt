use Rattle.std.proofs.Common.{ap, ◌∙◌}
use Rattle.plural_bytes.specs.Spelled.{text_lines}
use Rattle.plural_sections.specs.Sections.{up_to_header}
use Rattle.plural_sections.proofs.Cuts.{section_from, cut_rest}
use Rattle.plural_sections.proofs.sections.section_of.Goals as goal

-- The lines of the section follow the first line that is its header.
pub returns-clause-section : goal.returns-clause-section
returns-clause-section c =
    c.next_section.ensures.lines ∙ ap (λ x. up_to_header (text_lines x)) (cut_rest c.args.lines.now c.section_start-start.result)
    ∙ section_from c.args.header.now c.args.lines.now c.section_start-start.result c.section_start-start.ensures.start
