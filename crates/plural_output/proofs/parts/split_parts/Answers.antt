use Rattle.std.proofs.Common.{ap, ◌∙◌}
use Rattle.plural_bytes.specs.Spelled.{text_lines}
use Rattle.plural_sections.proofs.Cuts.{cut_rest}
use Rattle.plural_output.proofs.InputParts.{bundle_is, output_is}
use Rattle.plural_output.proofs.parts.split_parts.Goals as goal

-- The lines up to the cut are the bundle's.
pub returns-clause-bundle : goal.returns-clause-bundle
returns-clause-bundle c = bundle_is c.args.lines.now c.bundle_len-n.result c.bundle_len-n.ensures.bundle

-- The lines after the cut are the output's.
pub returns-clause-output : goal.returns-clause-output
returns-clause-output c = ap text_lines (cut_rest c.args.lines.now c.bundle_len-n.result) ∙ output_is c.args.lines.now c.bundle_len-n.result c.bundle_len-n.ensures.output
