use Rattle.std.proofs.Common.{◌≡◌, None}
use Rattle.plural_trace.specs.Least.{least}
use Rattle.plural_trace.specs.Rules.{breaks_words}
use Rattle.plural_trace.proofs.compare.word_fault.Given as goal

abbrev pub invariant-loop-i : goal.invariant-loop-i
invariant-loop-i l = least (breaks_words l.serial l.last) l.i ≡ None
