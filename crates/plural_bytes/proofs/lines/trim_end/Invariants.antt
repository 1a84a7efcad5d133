use Rattle.std.proofs.Common.{◌≡◌, length, reverse}
use Rattle.plural_bytes.specs.Lines.{is_blank, drop_while}
use Rattle.plural_bytes.proofs.lines.trim_end.Given as goal

abbrev pub invariant-loop-rest : goal.invariant-loop-rest
invariant-loop-rest l = drop_while is_blank (reverse l.rest) ≡ drop_while is_blank (reverse l.text)

abbrev pub decreases-loop-rest : goal.decreases-loop-rest
decreases-loop-rest l = length l.rest
