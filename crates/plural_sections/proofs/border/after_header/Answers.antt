use Rattle.std.proofs.Common.{ap, sym, ◌∙◌}
use Rattle.std.specs.Prelude.{bytes_eq}
use Rattle.plural_sections.proofs.Cuts.{after_header}
use Rattle.plural_sections.proofs.border.after_header.Goals as goal

-- The header is the first line.
pub returns-clause-answer : goal.returns-clause-answer
returns-clause-answer c = after_header c.args.lines.now c.args.header.now c.requires (sym (ap (λ t. bytes_eq t c.args.header.now) c.first_text.ensures) ∙ sym c.is_word.ensures ∙ c.if-not-is_word.false)
