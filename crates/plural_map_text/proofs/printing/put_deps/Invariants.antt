use Rattle.std.proofs.Common.{◌≡◌, ◌++◌, take}
use Rattle.std.specs.List.{flat_map}
use Rattle.plural_map_text.specs.Print.{dep_text}
use Rattle.plural_map_text.proofs.printing.put_deps.Given as goal

abbrev pub invariant-loop-dep : goal.invariant-loop-dep
invariant-loop-dep l = l.out.items ≡ l.fn.out.items ++ flat_map (dep_text l.tasks) (take l.dep-index l.deps)
