use Rattle.std.proofs.Common.{◌≡◌, length, List, get_or, ap, subst, arith, length-set}
use Rattle.plural_reach.specs.declared.set.TaskSet.{TaskSet}
use Rattle.std.specs.Prelude.{slice_index}
use Rattle.plural_map.specs.Value.{TaskValue}
use Rattle.plural_reach.specs.Rows.{row}
use Rattle.plural_reach.proofs.TableEntries.{item_within, few_deps, filled, finished, reaches_all}
use Rattle.plural_reach.proofs.BranchLemmas.{need_step, need_local, needs_exact}
use Rattle.plural_reach.proofs.branches.needs_of.Goals as goal

-- The index of `tasks-t` is inside.
pub bounds-tasks-t : goal.bounds-tasks-t
bounds-tasks-t c =
    let w = item_within c.args.map.now c.tasks-tasks.ensures.limits _ c.loop-t.invariant.order c.loop-t.t-index c.loop-t-test.true in
    omega (arith, ap length c.loop-t.invariant.tasks)

-- The call of `given` has what it requires.
pub given-requires : goal.given-requires
given-requires c =
    let w = item_within c.args.map.now c.tasks-tasks.ensures.limits _ c.loop-t.invariant.order c.loop-t.t-index c.loop-t-test.true in
    (few_deps c.args.map.now c.tasks-tasks.ensures.limits _ c.index-tasks-t.result w
    (subst (λ (xs : List TaskValue). c.index-tasks-t.result ≡ get_or xs (slice_index c.order-t-items.result.now c.loop-t.t-index) c.index-tasks-t.result) c.loop-t.invariant.tasks c.index-tasks-t.is))

-- The index of `sets-t` is inside.
pub bounds-sets-t : goal.bounds-sets-t
bounds-sets-t c =
    let w = item_within c.args.map.now c.tasks-tasks.ensures.limits _ c.loop-t.invariant.order c.loop-t.t-index c.loop-t-test.true in
    let few = c.tasks-tasks.ensures.limits.few_tasks in
    omega arith

-- A turn of `loop-t` keeps its invariant.
pub loop-t-preserved : goal.loop-t-preserved
loop-t-preserved c =
    record {
      order = c.loop-t.invariant.order;
      tasks = c.loop-t.invariant.tasks;
      length = omega (arith, length-set {A = TaskSet}, c.loop-t.invariant.length);
      solves = filled (need_step c.args.code) (need_local c.args.code) c.args.map.now c.tasks-tasks.ensures.limits c.order-t-items.result.now c.loop-t.invariant.order c.loop-t.t-index c.loop-t-test.true c.loop-t.sets c.loop-t.invariant.length
          c.loop-t.invariant.solves c.given.result c.index-tasks-t.result
          (subst (λ (xs : List TaskValue). c.index-tasks-t.result ≡ get_or xs (slice_index c.order-t-items.result.now c.loop-t.t-index) c.index-tasks-t.result) c.loop-t.invariant.tasks c.index-tasks-t.is)
          c.given.ensures;
    }

-- The answer meets the contract.
pub returns : goal.returns
returns c = needs_exact c.args.code c.args.map.now.tasks (row c.loop-t.sets) (reaches_all c.args.map.now c.tasks-tasks.ensures.limits)
    (finished (need_step c.args.code) c.args.map.now c.tasks-tasks.ensures.limits _ c.loop-t.invariant.order c.loop-t.t-index (omega arith) (row c.loop-t.sets) c.loop-t.invariant.solves)
