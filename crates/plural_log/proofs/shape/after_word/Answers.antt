use Rattle.plural_bytes.specs.Words.{inner}
use Rattle.plural_bytes.proofs.FirstWords.{spaced_ahead}
use Rattle.plural_log.proofs.shape.after_word.Goals as goal

-- A word between two spaces is the first token.
pub returns-in-Some : goal.returns-in-Some
returns-in-Some c =
    let cases = c.in-Some.ensures.cases in
    spaced_ahead c.args.text.now c.args.printed.now (inner c.args.printed.now) c.in-Some.rest.now c.requires.printed c.requires.word cases.0 cases.1
