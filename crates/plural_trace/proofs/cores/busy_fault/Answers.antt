use Rattle.std.proofs.Common.{◌≡◌, ◌∙◌, ◌+◌, ◌<◌, arith, ap, sym, subst, length, get_or}
use Rattle.std.proofs.lemmas.List.{get_or_read}
use Rattle.plural_trace.specs.Least.{least}
use Rattle.plural_trace.specs.Rules.{no_entry, entry_at}
use Rattle.plural_trace.specs.Busy.{is_busy_at}
use Rattle.plural_trace.proofs.LeastPlaces.{least_found}
use Rattle.plural_trace.proofs.CoreSweep.{AreLawful, Swept, step_next, step_meets, swept_all}
use Rattle.plural_trace.proofs.cores.busy_fault.Goals as goal
use Rattle.plural_trace.proofs.cores.busy_fault.Goals.{then-j-first+then-entries-j, else-j-first, else-j-first-via-then-j-first+else-entries-j, else-j-first-via-else-j-first}

-- A turn of `loop-ticket` keeps its invariant.
pub loop-ticket-preserved : goal.loop-ticket-preserved
loop-ticket-preserved c =
    let es = c.args.entries.now in
    let m = c.args.m in
    let cores = c.args.cores in
    let l = c.loop-ticket in
    let i = c.index-i.result.now in
    let j = c.index-j.result.now in
    let starts = c.in_ok-starts.starts.items in
    let law : AreLawful es m cores = record { below = c.requires.m; tickets = c.requires.tickets; own = λ k l. c.requires.cores k no_entry l } in
    let within : l.ticket < length starts = let n = c.len-ticket-end.ensures in let t = c.loop-ticket-test.true in omega arith in
    let long = c.in_ok-starts.ensures.long in
    let i_is : i ≡ get_or starts l.ticket 0 = get_or_read starts _ _ within c.index-i.ensures 0 in
    let im : i < m = let w = l.invariant.within in let f = c.if-i-first.false in omega arith in
    let at : (entry_at es i).start ≡ l.ticket = subst (λ x. x < m → (entry_at es x).start ≡ l.ticket) (sym i_is) (c.in_ok-starts.ensures.there l.ticket (omega arith)) im in
    let own = law.own i im in
    let room = l.invariant.long in
    let j_is : j ≡ get_or l.last.items (entry_at es i).core 0 = get_or_read l.last.items _ _ (omega arith) c.index-j.ensures 0 in
    let swept : Swept es m cores (entry_at es i).start l.first l.last.items = rw at l.invariant in
    let next : Swept es m cores ((entry_at es i).start + 1) c.if-j-first.first c.if-j-first.last.items = elim c.if-j-first.branch [
      | then-j-first+then-entries-j w ↦ rw (w.first-is, w.last-is, w.max-first.ensures, w.min.ensures) (step_meets es m cores l.first i j l.last.items law c.if-i-first.false j_is w.if-j-first.true w.if-entries-j.true swept)
      | else-j-first w ↦ rw (w.first-is, w.last-is) (step_next es m cores l.first i j l.last.items law c.if-i-first.false j_is
          (λ lj. elim w.else-j-first.branch [
            | else-j-first-via-then-j-first+else-entries-j v ↦ v.if-entries-j.false
            | else-j-first-via-else-j-first v ↦ absurd (let f = v.if-j-first.false in omega arith)
          ])
          swept)
    ] in
    subst (λ x. Swept es m cores (x + 1) c.if-j-first.first c.if-j-first.last.items) at next

-- The answer at `then-first-m` meets the clause `least`.
pub returns-then-first-m-clause-least : goal.returns-then-first-m-clause-least
returns-then-first-m-clause-least c =
    let es = c.args.entries.now in
    let l = c.loop-ticket in
    let law : AreLawful es c.args.m c.args.cores = record { below = c.requires.m; tickets = c.requires.tickets; own = λ k l. c.requires.cores k no_entry l } in
    least_found (is_busy_at es) l.first c.args.m c.if-first-m.true (swept_all es c.args.m c.args.cores l.ticket l.first l.last.items law (let long = c.in_ok-starts.ensures.long in let n = c.len-ticket-end.ensures in let t = c.loop-ticket-test.false in omega arith) l.invariant) (l.invariant.busy c.if-first-m.true)

-- The answer meets the clause `least`.
pub returns-clause-least : goal.returns-clause-least
returns-clause-least c =
    let es = c.args.entries.now in
    let l = c.loop-ticket in
    let law : AreLawful es c.args.m c.args.cores = record { below = c.requires.m; tickets = c.requires.tickets; own = λ k l. c.requires.cores k no_entry l } in
    let whole : l.first ≡ c.args.m = let a = l.invariant.within in let b = c.if-first-m.false in omega arith in
    sym (ap (least (is_busy_at es)) (sym whole) ∙ swept_all es c.args.m c.args.cores l.ticket l.first l.last.items law (let long = c.in_ok-starts.ensures.long in let n = c.len-ticket-end.ensures in let t = c.loop-ticket-test.false in omega arith) l.invariant)
