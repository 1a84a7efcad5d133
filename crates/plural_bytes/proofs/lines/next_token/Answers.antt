use Rattle.std.proofs.Common.{ap, ◌+◌, ◌≤◌, ◌<◌, ◌∙◌, sym, length, arith}
use Rattle.std.proofs.lemmas.List.{take_rest, drop_all, length-drop, nil_from_length}
use Rattle.std.proofs.lemmas.Bool.{eqb-true, eqb-false}
use Rattle.plural_bytes.specs.Lines.{tokens, is_blank}
use Rattle.plural_base.proofs.ListTests.{found}
use Rattle.plural_bytes.proofs.Cuts.{tokens_at, tokens_whole, tokens_trimmed, begins, drop_while_shorter, Begins}
use Rattle.plural_bytes.proofs.lines.next_token.Goals as goal

-- Blanks alone have no token.
pub returns-then-is_empty-clause-tokens : goal.returns-then-is_empty-clause-tokens
returns-then-is_empty-clause-tokens c =
    let none = nil_from_length c.trim_start-rest.result.now (eqb-true _ _ (sym c.is_empty.ensures ∙ c.if-is_empty.true)) in
    sym (tokens_trimmed c.args.text.now) ∙ ap tokens (sym c.trim_start-rest.ensures ∙ none)

-- The first token ends at the first blank.
pub returns-in-Some-clause-tokens : goal.returns-in-Some-clause-tokens
returns-in-Some-clause-tokens c =
    let rest = c.trim_start-rest.result.now in
    let b : Begins rest = rw c.trim_start-rest.ensures (begins c.args.text.now) in
    rw (take_rest rest (c.in-Some.i + 1)) (sym (tokens_trimmed c.args.text.now) ∙ ap tokens (sym c.trim_start-rest.ensures) ∙ tokens_at rest c.in-Some.i b (sym c.find_blank.ensures ∙ c.in-Some.is))

-- What stands after that blank is shorter than the text.
pub returns-in-Some-clause-shorter : goal.returns-in-Some-clause-shorter
returns-in-Some-clause-shorter c =
    let rest = c.trim_start-rest.result.now in
    let short : length rest ≤ length c.args.text.now = rw c.trim_start-rest.ensures (drop_while_shorter c.args.text.now) in
    let f = found is_blank rest c.in-Some.i (sym c.find_blank.ensures ∙ c.in-Some.is) in
    rw (take_rest rest (c.in-Some.i + 1)) (omega (arith, length-drop (c.in-Some.i + 1) rest, f.1, short))

-- A text without a blank is one token.
pub returns-in-None-clause-tokens : goal.returns-in-None-clause-tokens
returns-in-None-clause-tokens c =
    let rest = c.trim_start-rest.result.now in
    let none : length rest ≤ length rest = omega arith in
    let nonzero = eqb-false _ _ (sym c.is_empty.ensures ∙ c.if-is_empty.false) in
    let long : 0 < length rest = omega (arith, nonzero) in
    rw (take_rest rest (length rest), drop_all (length rest) rest none)
    (sym (tokens_trimmed c.args.text.now) ∙ ap tokens (sym c.trim_start-rest.ensures) ∙ tokens_whole rest (sym c.find_blank.ensures ∙ c.in-None.is) long)
