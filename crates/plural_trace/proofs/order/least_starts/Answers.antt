use Rattle.std.proofs.Common.{◌≡◌, ◌∙◌, ap, length}
use Rattle.std.proofs.lemmas.Result.{IfOk-weaker}
use Rattle.plural_reach.specs.Tables.{says_before}
use Rattle.plural_trace.specs.Ends.{AreLatestBefore, AreLeastStarts}
use Rattle.plural_trace.proofs.LatestEnds.{bounds_from, bounds_exact}
use Rattle.plural_trace.proofs.order.least_starts.Goals as goal

-- The answer meets the clause `long`.
pub returns-clause-long : goal.returns-clause-long
returns-clause-long c =
    let many : length c.deref.result.now ≡ length c.args.map.now.tasks = ap length c.deref.ensures.value ∙ (c.in_ok-ends.ensures.long ∙ ap length c.tasks.ensures.value) in
    IfOk-weaker c.bounds.result (λ v. length v.items ≡ length c.deref.result.now) (λ v. length v.items ≡ length c.args.map.now.tasks) (λ v long. long ∙ many) c.bounds.ensures.long

-- The answer meets the clause `exact`.
pub returns-clause-exact : goal.returns-clause-exact
returns-clause-exact c =
    let tasks = c.args.map.now.tasks in
    let es = c.args.entries.now in
    let many : length c.tasks.result.now ≡ length tasks = ap length c.tasks.ensures.value in
    IfOk-weaker c.bounds.result (λ v. AreLatestBefore (says_before c.reach.result) c.deref.result.now v.items) (λ v. AreLeastStarts tasks es v.items)
    (λ v limits. bounds_exact tasks es c.reach.result c.deref.result.now v.items
    (bounds_from tasks es c.reach.result (length c.tasks.result.now) c.in_ok-ends.ends.items c.deref.result.now v.items (rw many c.requires.tasks) c.reach.ensures many c.deref.ensures.value c.in_ok-ends.ensures.long c.in_ok-ends.ensures.ends limits))
    c.bounds.ensures.bounds
