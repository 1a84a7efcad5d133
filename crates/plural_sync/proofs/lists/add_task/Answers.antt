use Rattle.std.proofs.Common.{◌+◌, ◌<◌, List, ℕ, take, get_or, sym, subst, arith, length}
use Rattle.std.proofs.lemmas.List.{get_or_default, length-map}
use Rattle.plural_map.specs.declared.outcome.Dep.{Dep}
use Rattle.plural_map.specs.declared.outcome.When.TheVariants as when
use Rattle.plural_sync.specs.Lists.{rows_of, HasGained}
use Rattle.plural_sync.proofs.Rows.{gained_more}
use Rattle.plural_sync.proofs.lists.add_task.Goals as goal

-- The task is added to the list of one dependency more.
pub loop-dep-preserved : goal.loop-dep-preserved
loop-dep-preserved c =
    let i = c.loop-dep.dep-index in
    let none : Dep = record { task = 0; when = when.Any } in
    let d = get_or c.args.deps.now i none in
    let low : d.task < length (rows_of c.args.lists.now.items) = omega (arith, c.requires.within i none c.loop-dep-test.true, length-map c.args.lists.now.items (λ l. l.items)) in
    subst (λ (rows : List (List ℕ)). HasGained (take (i + 1) c.args.deps.now) c.args.u (rows_of c.args.lists.now.items) rows) (sym c.in_ok-push_to.ensures)
    (gained_more c.args.deps.now i c.args.u d (rows_of c.args.lists.now.items) (rows_of c.loop-dep.lists.items) c.requires.differ c.loop-dep-test.true (get_or_default c.args.deps.now i none d c.loop-dep-test.true) low c.loop-dep.invariant)
