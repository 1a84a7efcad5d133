use Rattle.std.proofs.Common.{ℕ, ◌<◌, get_or}
use Rattle.plural_trace.specs.declared.entry.Entry.{Entry}
use Rattle.plural_trace.proofs.cores.first_foreign.Given as goal

abbrev pub invariant-loop-i : goal.invariant-loop-i
invariant-loop-i l = (k : ℕ) (d : Entry) → k < l.i → (get_or l.entries k d).core < l.cores
