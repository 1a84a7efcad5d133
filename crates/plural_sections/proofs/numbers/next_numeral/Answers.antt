use Rattle.std.proofs.Common.{sym, ◌∙◌, arith}
use Rattle.std.proofs.lemmas.List.{take_rest}
use Rattle.plural_sections.proofs.FirstNumerals.{digits_first}
use Rattle.plural_sections.proofs.numbers.next_numeral.Goals as goal

-- Digits after which a token ends are the first token.
pub returns-then-ends_token : goal.returns-then-ends_token
returns-then-ends_token c =
    let trimmed = c.trim_start-trimmed.result.now in
    let digits = c.leading_digits-digits in
    rw (c.min.ensures, take_rest trimmed digits.result.len)
    (digits_first c.args.text.now trimmed digits.result.len digits.result.value c.trim_start-trimmed.ensures digits.ensures.inside (omega arith) digits.ensures.digits digits.ensures.value
    (rw take_rest at (sym c.ends_token.ensures ∙ c.if-ends_token.true)))
