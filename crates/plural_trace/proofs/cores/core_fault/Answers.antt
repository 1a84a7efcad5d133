use Rattle.std.proofs.Common.{◌≡◌, ◌∙◌, sym, ap, arith, length}
use Rattle.plural_trace.specs.Least.{least}
use Rattle.plural_trace.specs.Rules.{breaks_cores}
use Rattle.plural_trace.proofs.LeastPlaces.{least_found, least_stays}
use Rattle.plural_trace.proofs.LatestEnds.{cores_below, foreign_at}
use Rattle.plural_trace.proofs.cores.core_fault.Goals as goal

-- The answer at `in-Some` meets the clause `least`.
pub returns-in-Some-clause-least : goal.returns-in-Some-clause-least
returns-in-Some-clause-least c =
    let es = c.args.entries.now in
    let m = c.first_foreign-m.result in
    least_stays (breaks_cores c.args.cores es) c.in-Some.at m (length es) c.first_foreign-m.ensures.within
    (sym c.in-Some.is ∙ c.in_ok-at.ensures.least ∙ sym (cores_below c.args.cores es m c.first_foreign-m.ensures.own))

-- The answer at `then-m-entries` meets the clause `least`.
pub returns-then-m-entries-clause-least : goal.returns-then-m-entries-clause-least
returns-then-m-entries-clause-least c =
    let es = c.args.entries.now in
    let m = c.first_foreign-m.result in
    least_found (breaks_cores c.args.cores es) m (length es) c.if-m-entries.true
    (cores_below c.args.cores es m c.first_foreign-m.ensures.own ∙ sym c.in_ok-at.ensures.least ∙ c.in_default.is)
    (foreign_at c.args.cores es m (c.first_foreign-m.ensures.foreign c.if-m-entries.true))

-- The answer meets the clause `least`.
pub returns-clause-least : goal.returns-clause-least
returns-clause-least c =
    let es = c.args.entries.now in
    let m = c.first_foreign-m.result in
    let whole : m ≡ length es = let a = c.first_foreign-m.ensures.within in let b = c.if-m-entries.false in omega arith in
    sym (ap (least (breaks_cores c.args.cores es)) (sym whole) ∙ cores_below c.args.cores es m c.first_foreign-m.ensures.own ∙ sym c.in_ok-at.ensures.least ∙ c.in_default.is)
