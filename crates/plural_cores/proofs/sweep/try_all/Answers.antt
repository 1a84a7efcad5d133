use Rattle.std.proofs.Common.{◌≡◌, ℕ, ◌<◌, ◌≤◌, length, ap, ◌∙◌, subst, arith}
use Rattle.std.proofs.Common.{◌≡◌, ℕ, length, ap, ◌∙◌, subst, arith}
use Rattle.plural_cores.specs.Sweeps.{HasTried, IsWhole}
use Rattle.plural_cores.specs.Sweeps.{HasTried, IsWhole}
use Rattle.plural_map.specs.Value.{MapValue, TaskValue}
use Rattle.plural_map.specs.Value.{MapValue, TaskValue}
use Rattle.plural_rule.specs.Opening.{task_count}
use Rattle.plural_cores.proofs.Tries.{one_more_is, claimed_is, whole_is}
use Rattle.plural_cores.proofs.sweep.try_all.Goals as goal
use Rattle.plural_cores.proofs.sweep.try_all.Goals.{After-tasks}

-- There are as many tasks as the loop has turns.
tasks_of : (c : After-tasks) → length c.tasks.result.now ≡ task_count c.args.words.now.opening.program
tasks_of c = ap length c.tasks.ensures.value ∙ (ap (λ (m : MapValue). length m.tasks) c.map.ensures ∙ ap task_count c.requires.program)

-- One task more was tried.
pub loop-t-preserved : goal.loop-t-preserved
loop-t-preserved c =
    let few = tasks_of (goal.at.loop-t-preserved c).After-tasks in
    let d = c.loop-t.invariant in
    let e = c.claim-said.ensures in
    let small : c.loop-t.t < task_count c.args.words.now.opening.program = omega (arith, few) in
    record {
      seat = e.of;
      tried = one_more_is _ _ _ _ _ _ _ c.requires.program d.tried d.seat.view small e.seat e.rose e.cause c.in_default.not-Got;
      whole = whole_is _ _ _ _ _ _ _ _ _ _ c.requires.program d.whole d.tried d.seat.view small e.seat e.cause c.in_default.not-Got (c.quota.ensures ∙ ap (λ (x : TaskValue). x.quota) c.task-task.ensures.value) c.still_whole-whole.ensures;
    }

-- An instance was claimed.
pub returns-in-Got-clause-swept : goal.returns-in-Got-clause-swept
returns-in-Got-clause-swept c =
    let few = tasks_of (goal.at.returns-in-Got-clause-swept c).After-tasks in
    claimed_is _ _ _ _ _ _ _ c.requires.program c.loop-t.invariant.tried c.loop-t.invariant.seat.view (omega (arith, few)) c.in-Got.ensures.seat c.in-Got.ensures.rose c.in-Got.ensures.cause (subst (λ (x : TaskValue). x.budget ≤ 100000000) c.task-task.ensures.value c.task-task.ensures.limits.budget_high)

-- All tasks were tried.
pub returns-clause-swept : goal.returns-clause-swept
returns-clause-swept c =
    let few = tasks_of (goal.at.returns-clause-swept c).After-tasks in
    let at : c.loop-t.t ≡ task_count c.args.words.now.opening.program = omega (arith, few) in
    record {
      all = subst (λ (n : ℕ). HasTried c.args.words.now.opening n c.args.seat.now c.loop-t.seat) at c.loop-t.invariant.tried;
      known = subst (λ (n : ℕ). IsWhole c.args.words.now.opening n c.loop-t.whole c.args.seat.now.view c.loop-t.seat.view) at c.loop-t.invariant.whole;
    }
