use Rattle.std.proofs.Common.{ℕ, ◌≡◌, ◌<◌, List, length, get_or, sym, ◌∙◌, subst, arith}
use Rattle.std.specs.Prelude.{◌==◌}
use Rattle.plural_regions.specs.declared.region.Region.{Region}
use Rattle.plural_map.specs.Value.{TaskValue}
use Rattle.plural_crew.specs.Clashes.{regions_of, quota_of}
use Rattle.plural_crew.specs.Search.{IsLeastOf, SomeMeet}
use Rattle.plural_crew.proofs.ClashLemmas.{regions_at, quota_at, searchable, clash_least}
use Rattle.plural_crew.proofs.checking.clash_of.Goals as goal

-- The call of `some_meet` has what its clause `first` requires.
pub some_meet-requires-clause-first : goal.some_meet-requires-clause-first
some_meet-requires-clause-first c =
    let tasks = c.tasks-tasks.ensures.value in
    let at = subst (λ (xs : List TaskValue). c.index-tasks-t.result ≡ get_or xs c.args.t c.index-tasks-t.result) tasks c.index-tasks-t.is in
    rw (c.regions.ensures, c.quota.ensures) (searchable c.args.map.now c.tasks-tasks.ensures.limits c.args.t c.index-tasks-t.result (let l = c.requires.within in let o = c.requires.ordered in omega arith) at)

-- The call of `some_meet` has what its clause `second` requires.
pub some_meet-requires-clause-second : goal.some_meet-requires-clause-second
some_meet-requires-clause-second c =
    let tasks = c.tasks-tasks.ensures.value in
    let at = subst (λ (xs : List TaskValue). c.index-tasks-u.result ≡ get_or xs c.args.u c.index-tasks-u.result) tasks c.index-tasks-u.is in
    rw (c.regions-2.ensures, c.quota-2.ensures) (searchable c.args.map.now c.tasks-tasks.ensures.limits c.args.u c.index-tasks-u.result c.requires.within at)

-- The answer meets the contract.
pub returns : goal.returns
returns c =
    let m = c.args.map.now in
    let tasks = c.tasks-tasks.ensures.value in
    let first_within : c.args.t < length m.tasks = let l = c.requires.within in let o = c.requires.ordered in omega arith in
    let first_at = subst (λ (xs : List TaskValue). c.index-tasks-t.result ≡ get_or xs c.args.t c.index-tasks-t.result) tasks c.index-tasks-t.is in
    let second_at = subst (λ (xs : List TaskValue). c.index-tasks-u.result ≡ get_or xs c.args.u c.index-tasks-u.result) tasks c.index-tasks-u.is in
    let rs : regions_of m.tasks c.args.t ≡ c.regions.result.now = regions_at m.tasks c.args.t c.index-tasks-t.result first_within first_at ∙ sym c.regions.ensures in
    let q1 : quota_of m.tasks c.args.t ≡ c.quota.result = quota_at m.tasks c.args.t c.index-tasks-t.result first_within first_at ∙ sym c.quota.ensures in
    let ss : regions_of m.tasks c.args.u ≡ c.regions-2.result.now = regions_at m.tasks c.args.u c.index-tasks-u.result c.requires.within second_at ∙ sym c.regions-2.ensures in
    let q2 : quota_of m.tasks c.args.u ≡ c.quota-2.result = quota_at m.tasks c.args.u c.index-tasks-u.result c.requires.within second_at ∙ sym c.quota-2.ensures in
    let overlap = c.may_overlap.ensures.yes m.tasks c.requires.reach c.requires.needs first_within c.requires.within c.if-not-may_overlap.false in
    clash_least m.tasks c.args.t c.args.u c.some_meet.result c.requires.ordered overlap
    (subst (λ (xs : List Region). IsLeastOf (SomeMeet xs (quota_of m.tasks c.args.t) (regions_of m.tasks c.args.u) (quota_of m.tasks c.args.u) (c.args.t == c.args.u)) c.some_meet.result) (sym rs)
    (subst (λ (x : ℕ). IsLeastOf (SomeMeet c.regions.result.now x (regions_of m.tasks c.args.u) (quota_of m.tasks c.args.u) (c.args.t == c.args.u)) c.some_meet.result) (sym q1)
    (subst (λ (xs : List Region). IsLeastOf (SomeMeet c.regions.result.now c.quota.result xs (quota_of m.tasks c.args.u) (c.args.t == c.args.u)) c.some_meet.result) (sym ss)
    (subst (λ (x : ℕ). IsLeastOf (SomeMeet c.regions.result.now c.quota.result c.regions-2.result.now x (c.args.t == c.args.u)) c.some_meet.result) (sym q2) c.some_meet.ensures))))
