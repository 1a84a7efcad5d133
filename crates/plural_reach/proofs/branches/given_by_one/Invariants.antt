use Rattle.std.proofs.Common.{ℕ, ◌≡◌, take}
use Rattle.std.specs.List.{list_any}
use Rattle.plural_reach.specs.Sets.{has}
use Rattle.plural_reach.specs.Branches.{gives}
use Rattle.plural_reach.specs.Rows.{family}
use Rattle.plural_reach.proofs.branches.given_by_one.Given as goal

-- the tasks whose code one of the dependencies so far gives
abbrev pub invariant-loop-dep : goal.invariant-loop-dep
invariant-loop-dep l = (p : ℕ) → has l.all p ≡ list_any (gives (family l.sets) p l.code) (take l.dep-index l.deps)
