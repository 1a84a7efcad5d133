use Rattle.std.proofs.Common.{ℕ, ◌<◌}
use Rattle.plural_crew.specs.Search.{NoneClash}
use Rattle.plural_crew.proofs.checking.first_clash_of.Given as goal

-- no clash with an earlier second task
abbrev pub invariant-loop-u : goal.invariant-loop-u
invariant-loop-u l = (w : ℕ) → w < l.u → NoneClash l.map.tasks l.t w
