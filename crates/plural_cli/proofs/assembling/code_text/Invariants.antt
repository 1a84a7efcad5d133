use Rattle.std.proofs.Common.{◌≡◌, take}
use Rattle.plural_cli.specs.Asm.{code_text}
use Rattle.plural_cli.proofs.assembling.code_text.Given as goal

abbrev pub invariant-loop-i : goal.invariant-loop-i
invariant-loop-i l = l.text.items ≡ code_text (take l.i l.code)
