use Rattle.std.proofs.Common.{◌≡◌, None}
use Rattle.plural_trace.specs.Least.{least}
use Rattle.plural_trace.specs.Rules.{breaks_rise}
use Rattle.plural_trace.proofs.rise.rise_fault.Given as goal

abbrev pub invariant-loop-i : goal.invariant-loop-i
invariant-loop-i l = least (breaks_rise l.entries) l.i ≡ None
