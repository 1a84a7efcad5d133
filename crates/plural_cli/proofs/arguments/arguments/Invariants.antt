use Rattle.std.proofs.Common.{◌≡◌, map, length}
use Rattle.std.specs.String.{string_bytes}
use Rattle.plural_cli.specs.Arguments.{arguments}
use Rattle.plural_cli.specs.Given.{with_given}
use Rattle.plural_cli.proofs.arguments.arguments.Given as goal

abbrev pub invariant-loop-rest : goal.invariant-loop-rest
invariant-loop-rest l = arguments (map string_bytes l.words) ≡ with_given l.given (arguments (map string_bytes l.rest))

abbrev pub decreases-loop-rest : goal.decreases-loop-rest
decreases-loop-rest l = length l.rest
