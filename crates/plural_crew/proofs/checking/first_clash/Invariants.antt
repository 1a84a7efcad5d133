use Rattle.std.proofs.Common.{ℕ, ◌<◌}
use Rattle.plural_crew.specs.Search.{NoneClash}
use Rattle.plural_crew.proofs.checking.first_clash.Given as goal

-- no clash with an earlier first task
abbrev pub invariant-loop-t : goal.invariant-loop-t
invariant-loop-t l = (v : ℕ) → v < l.t → (w : ℕ) → NoneClash l.map.tasks v w
