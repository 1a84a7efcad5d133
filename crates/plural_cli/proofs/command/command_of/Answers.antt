use Rattle.std.specs.String.{string_bytes}
use Rattle.plural_cli.proofs.CommandWords.{none_named}
use Rattle.plural_cli.proofs.command.command_of.Goals as goal

-- An argument is there twice: the words name no command.
pub returns-in-None-clause-value : goal.returns-in-None-clause-value
returns-in-None-clause-value c = none_named string_bytes c.args.words.now c.name-item.result c.in-len1-up.len_at_least c.name-item.is c.in-None.ensures
