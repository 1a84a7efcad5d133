use Rattle.std.proofs.Common.{◌≡◌, arith, get_or}
use Rattle.std.proofs.lemmas.List.{get_or_read}
use Rattle.plural_trace.specs.Rules.{no_entry, entry_at, BreaksOrder}
use Rattle.plural_trace.proofs.LeastPlaces.{nowhere_next}
use Rattle.plural_trace.proofs.order.order_fault.Goals as goal

-- The answer at `then-entries-i` meets the clause `least`.
pub returns-then-entries-i-clause-least : goal.returns-then-entries-i-clause-least
returns-then-entries-i-clause-least c =
    let t = (entry_at c.args.entries.now c.loop-i.i).rec.t in
    let own = c.requires c.loop-i.i no_entry c.loop-i-test.true in
    let long = c.in_ok-least.ensures.long in
    let read : c.index.result.now ≡ get_or c.in_ok-least.least.items t 0 = get_or_read c.in_ok-least.least.items _ _ (omega arith) c.index.ensures 0 in
    let below = c.if-entries-i.true in
    (c.loop-i-test.true, (c.in_ok-least.ensures.exact c.loop-i.i c.loop-i-test.true).0 (omega arith), c.loop-i.invariant)

-- A turn of `loop-i` keeps its invariant.
pub loop-i-preserved : goal.loop-i-preserved
loop-i-preserved c =
    let t = (entry_at c.args.entries.now c.loop-i.i).rec.t in
    let own = c.requires c.loop-i.i no_entry c.loop-i-test.true in
    let long = c.in_ok-least.ensures.long in
    let read : c.index.result.now ≡ get_or c.in_ok-least.least.items t 0 = get_or_read c.in_ok-least.least.items _ _ (omega arith) c.index.ensures 0 in
    let above = c.if-entries-i.false in
    nowhere_next (BreaksOrder c.args.map.now.tasks c.args.entries.now) c.loop-i.i c.loop-i.invariant
    (λ b. let lt = (c.in_ok-least.ensures.exact c.loop-i.i c.loop-i-test.true).1 b in omega arith)

-- The answer meets the clause `least`.
pub returns-clause-least : goal.returns-clause-least
returns-clause-least c i l = c.loop-i.invariant i (let end = c.loop-i-test.false in omega arith)
