use Rattle.std.proofs.Common.{◌<◌, ◌≤◌, length, arith, below_more, ⊎_elim, ap}
use Rattle.std.proofs.lemmas.Bool.{cases_lt}
use Rattle.plural_crew.proofs.ClashLemmas.{none_past, none_earlier}
use Rattle.plural_crew.proofs.checking.first_clash_of.Goals as goal

-- The invariant of `loop-u` holds at its start.
pub loop-u-init : goal.loop-u-init
loop-u-init c = λ w l. none_earlier c.args.map.now.tasks c.args.t w l

-- A turn of `loop-u` keeps its invariant.
pub loop-u-preserved : goal.loop-u-preserved
loop-u-preserved c = below_more _ _ c.loop-u.invariant c.in_default.ensures

-- The answer meets the clause `none`.
pub returns-clause-none : goal.returns-clause-none
returns-clause-none c = λ w. ⊎_elim
    (λ (l : w < c.loop-u.u). c.loop-u.invariant w l)
    (λ (l : c.loop-u.u ≤ w). none_past c.args.map.now.tasks c.args.t w (let e = ap length c.tasks.ensures.value in let few = c.tasks.ensures.limits.few_tasks in omega arith))
    (cases_lt w c.loop-u.u)
