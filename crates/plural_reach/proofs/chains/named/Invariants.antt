use Rattle.std.proofs.Common.{ℕ, ◌≡◌, take}
use Rattle.plural_reach.specs.Sets.{has}
use Rattle.plural_reach.specs.Rows.{is_named}
use Rattle.plural_reach.proofs.chains.named.Given as goal

-- the tasks that the dependencies so far name, and those before these
abbrev pub invariant-loop-dep : goal.invariant-loop-dep
invariant-loop-dep l = (p : ℕ) → has l.all p ≡ is_named l.before (take l.dep-index l.deps) p
