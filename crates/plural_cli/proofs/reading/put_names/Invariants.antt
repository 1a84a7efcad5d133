use Rattle.std.proofs.Common.{◌≡◌, ◌++◌, take}
use Rattle.plural_cli.specs.FaultLine.{names_text}
use Rattle.plural_cli.proofs.reading.put_names.Given as goal

abbrev pub invariant-loop-name : goal.invariant-loop-name
invariant-loop-name l = l.word.items ≡ l.fn.word.items ++ names_text (take l.name-index l.names)
