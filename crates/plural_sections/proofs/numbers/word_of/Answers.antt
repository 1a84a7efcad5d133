use Rattle.std.proofs.Common.{sym, ◌∙◌}
use Rattle.plural_sections.proofs.WordTokens.{word_none}
use Rattle.plural_sections.proofs.numbers.word_of.Goals as goal

-- Eight bytes of which one is no digit are no word.
pub returns-in-Err : goal.returns-in-Err
returns-in-Err c = word_none c.args.token.now c.in-Err.field-0 c.if-token-ne8.false (sym c.in-Err.is ∙ c.digits.ensures)
