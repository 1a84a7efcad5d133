use Rattle.std.proofs.Common.{◌∙◌, sym, subst}
use Rattle.std.specs.String.{string_bytes}
use Rattle.plural_cli.specs.Given.{IsTwice}
use Rattle.plural_cli.proofs.CommandWords.{next_argument, taken_twice}
use Rattle.plural_cli.proofs.arguments.arguments.Goals as goal

-- An argument whose place is taken is there twice.
pub returns-in-None : goal.returns-in-None
returns-in-None c =
    let all = next_argument string_bytes c.args.words.now c.loop-rest.rest.now c.word-item.result c.loop-rest.given c.first.result.0 _ c.loop-rest.invariant c.in-len1-up.len_at_least c.word-item.is c.first.ensures.argument in
    subst IsTwice (sym all) (taken_twice c.loop-rest.given c.first.result.0 _ c.in-None.ensures)

-- One more argument is kept.
pub loop-rest-preserved : goal.loop-rest-preserved
loop-rest-preserved c =
    let all = next_argument string_bytes c.args.words.now c.loop-rest.rest.now c.word-item.result c.loop-rest.given c.first.result.0 _ c.loop-rest.invariant c.in-len1-up.len_at_least c.word-item.is c.first.ensures.argument in
    all ∙ sym (c.in-Some.ensures _)
