use Rattle.std.proofs.Common.{◌≡◌, length, List, get_or, ap, subst, arith, length-set}
use Rattle.plural_reach.specs.declared.set.TaskSet.{TaskSet}
use Rattle.std.specs.Prelude.{slice_index}
use Rattle.plural_map.specs.Value.{TaskValue}
use Rattle.plural_reach.specs.Rows.{row}
use Rattle.plural_reach.proofs.TableEntries.{item_within, few_deps, filled, finished, reaches_all}
use Rattle.plural_reach.proofs.ChainLemmas.{chain_step, chain_local, chains_exact}
use Rattle.plural_reach.proofs.chains.reach.Goals as goal

-- The index of `tasks-u` is inside.
pub bounds-tasks-u : goal.bounds-tasks-u
bounds-tasks-u c =
    let w = item_within c.args.map.now c.tasks-tasks.ensures.limits _ c.loop-u.invariant.order c.loop-u.u-index c.loop-u-test.true in
    omega (arith, ap length c.loop-u.invariant.tasks)

-- The call of `named` has what it requires.
pub named-requires : goal.named-requires
named-requires c =
    let w = item_within c.args.map.now c.tasks-tasks.ensures.limits _ c.loop-u.invariant.order c.loop-u.u-index c.loop-u-test.true in
    rw c.deps.ensures (few_deps c.args.map.now c.tasks-tasks.ensures.limits _ c.index-tasks-u.result w
    (subst (λ (xs : List TaskValue). c.index-tasks-u.result ≡ get_or xs (slice_index c.order-u-items.result.now c.loop-u.u-index) c.index-tasks-u.result) c.loop-u.invariant.tasks c.index-tasks-u.is))

-- The index of `before-u` is inside.
pub bounds-before-u : goal.bounds-before-u
bounds-before-u c =
    let w = item_within c.args.map.now c.tasks-tasks.ensures.limits _ c.loop-u.invariant.order c.loop-u.u-index c.loop-u-test.true in
    let few = c.tasks-tasks.ensures.limits.few_tasks in
    omega arith

-- A turn of `loop-u` keeps its invariant.
pub loop-u-preserved : goal.loop-u-preserved
loop-u-preserved c =
    let made = rw c.deps.ensures at c.named.ensures in
    record {
      order = c.loop-u.invariant.order;
      tasks = c.loop-u.invariant.tasks;
      length = omega (arith, length-set {A = TaskSet}, c.loop-u.invariant.length);
      solves = filled chain_step chain_local c.args.map.now c.tasks-tasks.ensures.limits c.order-u-items.result.now c.loop-u.invariant.order c.loop-u.u-index c.loop-u-test.true c.loop-u.before c.loop-u.invariant.length
          c.loop-u.invariant.solves c.named.result c.index-tasks-u.result
          (subst (λ (xs : List TaskValue). c.index-tasks-u.result ≡ get_or xs (slice_index c.order-u-items.result.now c.loop-u.u-index) c.index-tasks-u.result) c.loop-u.invariant.tasks c.index-tasks-u.is)
          made;
    }

-- The answer meets the contract.
pub returns : goal.returns
returns c = record {
  exact = chains_exact c.args.map.now.tasks (row c.loop-u.before) (reaches_all c.args.map.now c.tasks-tasks.ensures.limits)
      (finished chain_step c.args.map.now c.tasks-tasks.ensures.limits _ c.loop-u.invariant.order c.loop-u.u-index (omega arith) (row c.loop-u.before) c.loop-u.invariant.solves);
}
