use Rattle.std.proofs.Common.{ℕ, ◌≡◌, take}
use Rattle.std.specs.Prelude.{◌&&◌}
use Rattle.std.specs.List.{list_all}
use Rattle.plural_reach.specs.Sets.{has}
use Rattle.plural_reach.specs.Branches.{gives}
use Rattle.plural_reach.specs.Rows.{family}
use Rattle.plural_reach.proofs.branches.given_by_all.Given as goal

-- the tasks whose code the first dependency and each of those so far gives
abbrev pub invariant-loop-dep : goal.invariant-loop-dep
invariant-loop-dep l = (p : ℕ) → has l.all p ≡ (has l.initial.all p && list_all (gives (family l.sets) p l.code) (take l.dep-index l.deps))
