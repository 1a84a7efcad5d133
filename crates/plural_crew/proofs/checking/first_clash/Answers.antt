use Rattle.std.proofs.Common.{◌<◌, ◌≤◌, length, arith, below_more, ⊎_elim, ap}
use Rattle.std.proofs.lemmas.Bool.{cases_lt}
use Rattle.plural_crew.proofs.ClashLemmas.{none_past_first, accepted_from, found_first, none_found}
use Rattle.plural_crew.proofs.checking.first_clash.Goals as goal

-- The answer at `then-is_some` meets the clause `found`.
pub returns-then-is_some-clause-found : goal.returns-then-is_some-clause-found
returns-then-is_some-clause-found c = found_first c.args.map.now.tasks c.loop-t.t c.first_clash_of-found.result c.loop-t.invariant c.first_clash_of-found.ensures.task c.first_clash_of-found.ensures.found c.first_clash_of-found.ensures.first

-- A turn of `loop-t` keeps its invariant.
pub loop-t-preserved : goal.loop-t-preserved
loop-t-preserved c = below_more _ _ c.loop-t.invariant (none_found c.first_clash_of-found.result c.if-is_some.ensures c.first_clash_of-found.ensures.none)

-- The answer meets the clause `none`.
pub returns-clause-none : goal.returns-clause-none
returns-clause-none c = accepted_from c.args.map.now.tasks (λ v w. ⊎_elim
    (λ (l : v < c.loop-t.t). c.loop-t.invariant v l w)
    (λ (l : c.loop-t.t ≤ v). none_past_first c.args.map.now.tasks v w (let e = ap length c.tasks.ensures.value in let few = c.tasks.ensures.limits.few_tasks in omega arith))
    (cases_lt v c.loop-t.t))
