use Rattle.std.proofs.Common.{◌≤◌, ap, refl, length, arith}
use Rattle.plural_serial.specs.Program.{ProgramValue}
use Rattle.plural_order.specs.TaskGraph.{decision_by}
use Rattle.plural_counters.specs.Steps.{on_decision}
use Rattle.plural_counters.specs.declared.duty.Duty.TheVariants.{Decide}
use Rattle.plural_rule.specs.Opening.{task_count, graph_in}
use Rattle.plural_sync.specs.Pending.{tells}
use Rattle.plural_sync.proofs.Settled.{kept_settled, progress_settled, room}
use Rattle.plural_sync.proofs.synchroniser.Synchroniser.decide.Goals as goal

-- There is room for the list of a task that is skipped.
pub begin-requires : goal.begin-requires
begin-requires c =
    let few : task_count c.args.words.now.opening.program ≤ 256 = omega (arith, c.successors-successors.ensures.few, ap (λ (p : ProgramValue). length p.map.tasks) c.requires.opened) in
    room c.args.words.now c.args.seat.now (Decide c.args.u) c.args.pending.now.items c.requires.pending refl few

-- There is room for the list of a task that fails.
pub begin-requires-in-Fail : goal.begin-requires-in-Fail
begin-requires-in-Fail c =
    let few : task_count c.args.words.now.opening.program ≤ 256 = omega (arith, c.successors-successors.ensures.few, ap (λ (p : ProgramValue). length p.map.tasks) c.requires.opened) in
    room c.args.words.now c.args.seat.now (Decide c.args.u) c.args.pending.now.items c.requires.pending refl few

-- A task that is skipped begins to be told, and the other duties stay.
pub returns-in-Skip-clause-kept : goal.returns-in-Skip-clause-kept
returns-in-Skip-clause-kept c =
    let g = graph_in c.args.words.now.opening in
    kept_settled c.args.seat.now c.load_state.new.seat (Decide c.args.u) (on_decision g c.args.u (decision_by g c.args.u)) c.load_state.ensures.seat

-- It is further then.
pub returns-in-Skip-clause-further : goal.returns-in-Skip-clause-further
returns-in-Skip-clause-further c =
    let g = graph_in c.args.words.now.opening in
    omega (arith, progress_settled c.args.words.now c.args.seat.now c.load_state.new.seat (Decide c.args.u) (tells c.args.pending.now.items) (on_decision g c.args.u (decision_by g c.args.u)) c.requires.pending.owes c.load_state.ensures.seat)

-- A task that fails begins to be told, and the other duties stay.
pub returns-in-Fail-clause-kept : goal.returns-in-Fail-clause-kept
returns-in-Fail-clause-kept c =
    let g = graph_in c.args.words.now.opening in
    kept_settled c.args.seat.now c.load_state.new.seat (Decide c.args.u) (on_decision g c.args.u (decision_by g c.args.u)) c.load_state.ensures.seat

-- It is further then.
pub returns-in-Fail-clause-further : goal.returns-in-Fail-clause-further
returns-in-Fail-clause-further c =
    let g = graph_in c.args.words.now.opening in
    omega (arith, progress_settled c.args.words.now c.args.seat.now c.load_state.new.seat (Decide c.args.u) (tells c.args.pending.now.items) (on_decision g c.args.u (decision_by g c.args.u)) c.requires.pending.owes c.load_state.ensures.seat)
