use Rattle.std.proofs.Common.{◌≡◌, ℕ, true, List, ◌++◌, length, take, drop, ap, sym, ◌∙◌}
use Rattle.std.specs.Prelude.{bytes_eq}
use Rattle.plural_bytes.specs.Lines.{is_blank, drop_while, tokens}
use Rattle.plural_bytes.proofs.Cuts.{tokens_trimmed}
use Rattle.plural_bytes.proofs.FirstWords.{word_ahead, word_longer, word_missed, prefix_word}
use Rattle.plural_log.proofs.shape.after_token.Goals as goal

-- A text that begins with a word, after blanks.
begun : (text trimmed w r : List ℕ) → trimmed ≡ drop_while is_blank text → bytes_eq (take (length w) trimmed) w ≡ true → r ≡ drop (length w) trimmed → tokens text ≡ tokens (w ++ r)
begun text trimmed w r t begins e = sym (tokens_trimmed text) ∙ ap tokens (sym t ∙ sym (prefix_word trimmed w begins)) ∙ ap (λ x. tokens (w ++ x)) (sym e)

-- A text that doesn't begin with the word has another first token.
pub returns-in_err-rest : goal.returns-in_err-rest
returns-in_err-rest c = rw c.from_residual.ensures (λ ts f. word_missed c.args.text.now c.args.word.now ts (rw c.trim_start.ensures at c.in_err-rest.ensures.cases) f)

-- If a token ends after the word, the word is the first.
pub returns-then-ends_token : goal.returns-then-ends_token
returns-then-ends_token c =
    let cases = c.in_ok-rest.ensures.cases in
    let word = c.args.word.now in
    let rest = c.in_ok-rest.rest.now in
    begun c.args.text.now c.trim_start.result.now word rest c.trim_start.ensures cases.0 cases.1 ∙ word_ahead word rest c.requires (sym c.ends_token.ensures ∙ c.if-ends_token.true)

-- If none ends there, the first token is longer.
pub returns-else-ends_token : goal.returns-else-ends_token
returns-else-ends_token c = λ ts f.
    let cases = c.in_ok-rest.ensures.cases in
    let word = c.args.word.now in
    let rest = c.in_ok-rest.rest.now in
    word_longer word rest ts c.requires (sym c.ends_token.ensures ∙ c.if-ends_token.false) (sym (begun c.args.text.now c.trim_start.result.now word rest c.trim_start.ensures cases.0 cases.1) ∙ f)
