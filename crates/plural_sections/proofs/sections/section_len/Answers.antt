use Rattle.std.proofs.Common.{ap, ◌∙◌, length}
use Rattle.std.specs.Prelude.{unwrap_or}
use Rattle.plural_bytes.specs.declared.lines.Line.{Line}
use Rattle.plural_base.proofs.ListTests.{unwrap_found}
use Rattle.plural_sections.specs.Sections.{closes}
use Rattle.plural_sections.proofs.sections.section_len.Goals as goal

-- A section ends before the first line that closes one, or at the end.
pub returns-clause-len : goal.returns-clause-len
returns-clause-len c = c.unwrap_or.ensures ∙ ap (λ o. unwrap_or o (length c.args.lines.now)) c.find_closing.ensures ∙ unwrap_found (λ (l : Line). closes l.text.now) c.args.lines.now
