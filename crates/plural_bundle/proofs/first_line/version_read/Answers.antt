use Rattle.std.proofs.Common.{sym, ◌∙◌}
use Rattle.plural_bytes.specs.Numerals.{numeral}
use Rattle.plural_bundle.proofs.Versions.{read_number}
use Rattle.plural_bundle.proofs.first_line.version_read.Goals as goal

-- A number of at most 2 is told.
pub returns-in-Ok-clause-read : goal.returns-in-Ok-clause-read
returns-in-Ok-clause-read c = c.version_known.ensures.read ∙ read_number (numeral c.args.text.now) c.in-Ok.version (sym c.in-Ok.is ∙ c.number.ensures)
