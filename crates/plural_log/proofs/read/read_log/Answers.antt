use Rattle.std.proofs.Common.{◌≡◌, ◌∙◌, length, arith}
use Rattle.plural_log.specs.Spelled.{log_by}
use Rattle.plural_log.proofs.Reading.{fine_range, fine_task, reads_nothing, reads_more, reads_all, line_first, closed_faultless}
use Rattle.plural_log.proofs.read.read_log.Goals as goal

-- The first line with a fault has the first of the section.
pub returns-in-Err-clause-answer : goal.returns-in-Err-clause-answer
returns-in-Err-clause-answer c =
    let few : c.len.result ≡ length c.loop-n.entries.items = omega arith in
    line_first c.args.map.now.tasks c.args.lines.now c.args.end c.loop-n.n _ _ _ c.loop-n-test.true c.loop-n.invariant (rw (c.tasks-tasks.ensures.value, few) at c.in-Err.ensures.fault)

-- One more line without a fault is read.
pub loop-n-preserved : goal.loop-n-preserved
loop-n-preserved c =
    let few : c.len.result ≡ length c.loop-n.entries.items = omega arith in
    let fine = rw (c.tasks-tasks.ensures.value, few) at c.in-Ok.ensures.fine in
    reads_more c.args.map.now.tasks c.args.lines.now c.loop-n.n _ _ _ c.in-Ok.read c.loop-n-test.true c.loop-n.invariant fine
    (c.in_ok-add-in-Ok.ensures.ok c.args.map.now.tasks (fine_task _ _ _ _ c.in-Ok.read fine))

-- The log that was read is the one that the lines spell.
pub returns-clause-answer : goal.returns-clause-answer
returns-clause-answer c =
    let log = log_by c.loop-n.cores c.loop-n.outcomes.items c.loop-n.entries.items in
    let all = reads_all c.args.map.now.tasks c.args.lines.now c.loop-n.n log c.loop-n-test.false c.loop-n.invariant in
    (closed_faultless c.args.map.now.tasks c.args.lines.now c.args.end log all (rw c.tasks-tasks.ensures.value at c.if-lines-tasks.false), c.of.ensures ∙ all.known.spelled)

-- Before any line nothing is read.
pub loop-n-init : goal.loop-n-init
loop-n-init c = rw (c.new-outcomes.ensures.items, c.new-entries.ensures.items) (reads_nothing c.args.map.now.tasks)

-- The numbers of what is added are in their ranges.
pub add-requires : goal.add-requires
add-requires c = record { range = fine_range _ _ _ _ c.in-Ok.read c.in-Ok.ensures.fine }
