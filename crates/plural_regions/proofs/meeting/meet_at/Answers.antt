use Rattle.std.proofs.Common.{◌≡◌, ◌+◌, true, false, refl, arith}
use Rattle.plural_regions.proofs.MeetingLemmas.{inside_end, at_none, at_found}
use Rattle.plural_regions.proofs.meeting.meet_at.Goals as goal
use Rattle.plural_regions.proofs.meeting.meet_at.Goals.{then-same_task, else-same_task}

-- The value of `start` stays in its type.
pub overflow_cast-start : goal.overflow_cast-start
overflow_cast-start c =
    let e = inside_end c.args.r.now c.args.k 1048576 (c.requires.first.inside c.args.k c.requires.below) in
    record { fits = omega arith }

-- The value of `start-2` stays in its type.
pub overflow_cast-start-2 : goal.overflow_cast-start-2
overflow_cast-start-2 c =
    let below = c.in_ok-l.ensures.found.below in
    let e = inside_end c.args.s.now c.in_ok-l.l 1048576 (c.requires.second.inside c.in_ok-l.l below) in
    record { fits = omega arith }

-- The answer meets the clause `found`.
pub returns-clause-found : goal.returns-clause-found
returns-clause-found c =
    let one : c.args.same_task ≡ true → c.if-same_task.low ≡ c.args.k + 1 = elim c.if-same_task.branch [ then-same_task w ↦ (λ e. w.low-is) | else-same_task w ↦ (λ e. absurd cc) ] in
    let other : c.args.same_task ≡ false → c.if-same_task.low ≡ 0 = elim c.if-same_task.branch [ then-same_task w ↦ (λ e. absurd cc) | else-same_task w ↦ (λ e. w.low-is) ] in
    let found = rw c.start-start.ensures at c.in_ok-l.ensures.found in
    (refl, rw (c.max-a.ensures, c.start-start.ensures, c.start.ensures) (at_found c.args.r.now c.args.s.now c.args.q1 c.args.q2 c.args.same_task c.args.k c.if-same_task.low c.in_ok-l.l one other c.requires.below found))

-- The answer at `in_err-l` meets the clause `none`.
pub returns-in_err-l-clause-none : goal.returns-in_err-l-clause-none
returns-in_err-l-clause-none c =
    let one : c.args.same_task ≡ true → c.if-same_task.low ≡ c.args.k + 1 = elim c.if-same_task.branch [ then-same_task w ↦ (λ e. w.low-is) | else-same_task w ↦ (λ e. absurd cc) ] in
    let other : c.args.same_task ≡ false → c.if-same_task.low ≡ 0 = elim c.if-same_task.branch [ then-same_task w ↦ (λ e. absurd cc) | else-same_task w ↦ (λ e. w.low-is) ] in
    let none = rw c.start-start.ensures at c.in_err-l.ensures.none in
    rw c.from_residual.ensures (at_none c.args.r.now c.args.s.now c.args.q1 c.args.q2 c.args.same_task c.args.k c.if-same_task.low one other none)
