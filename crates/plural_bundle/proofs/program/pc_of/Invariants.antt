use Rattle.std.proofs.Common.{◌≡◌, length}
use Rattle.plural_bundle.specs.Value.{pc_of}
use Rattle.plural_bundle.proofs.program.pc_of.Given as goal

abbrev pub invariant-loop-rest : goal.invariant-loop-rest
invariant-loop-rest l = pc_of l.rest l.name ≡ pc_of l.labels l.name

abbrev pub decreases-loop-rest : goal.decreases-loop-rest
decreases-loop-rest l = length l.rest
