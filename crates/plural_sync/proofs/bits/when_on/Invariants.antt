use Rattle.std.proofs.Common.{◌≡◌, drop}
use Rattle.plural_order.specs.ProgramGraph.{when_on}
use Rattle.plural_sync.proofs.bits.when_on.Given as goal

abbrev pub invariant-loop-dep : goal.invariant-loop-dep
invariant-loop-dep l = when_on l.t l.deps ≡ when_on l.t (drop l.dep-index l.deps)
