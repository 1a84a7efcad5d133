use Rattle.std.proofs.Common.{◌-◌, length, sym, ◌∙◌, arith}
use Rattle.plural_map.proofs.OrderLemmas.{next_is_ready, ready_within}
use Rattle.plural_map.proofs.OrderSteps.{order_ends, order_goes, order_done}
use Rattle.plural_map.proofs.ordering.order.Goals as goal

-- The order ends where no task is ready.
pub returns-in-None : goal.returns-in-None
returns-in-None c = sym (order_ends (length c.args.tasks.now - c.loop-n._n) c.args.tasks.now c.loop-n.done (sym c.next_ready.ensures ∙ c.in-None.is)) ∙ c.loop-n.invariant

-- The number of a task is below the limit.
pub push-requires : goal.push-requires
push-requires c =
    let l = ready_within c.args.tasks.now c.loop-n.done c.in-Some.t (next_is_ready c.args.tasks.now c.loop-n.done c.in-Some.t (sym c.next_ready.ensures ∙ c.in-Some.is)) in
    omega (arith, l)

-- One more task is reached.
pub loop-n-preserved : goal.loop-n-preserved
loop-n-preserved c =
    let step = order_goes (length c.args.tasks.now) c.loop-n._n c.in-Some.t c.args.tasks.now c.loop-n.done c.loop-n-test.true (sym c.next_ready.ensures ∙ c.in-Some.is) in
    rw c.in_ok-push-in-Some.ensures (sym step ∙ c.loop-n.invariant)

-- After as many steps as there are tasks the order is whole.
pub returns : goal.returns
returns c = sym (order_done (length c.args.tasks.now) c.loop-n._n c.args.tasks.now c.loop-n.done c.loop-n-test.false) ∙ c.loop-n.invariant
