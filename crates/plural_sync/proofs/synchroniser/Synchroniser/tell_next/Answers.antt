use Rattle.std.proofs.Common.{◌≡◌, ◌∙◌, ◌<◌, ◌≤◌, Bool, true, false, cond, List, [], ◌∷◌, length, get_or, ap, subst, refl, arith}
use Rattle.std.specs.Option.{option_map_or}
use Rattle.plural_serial.specs.Program.{ProgramValue}
use Rattle.plural_reach.specs.Chains.{deps_of}
use Rattle.plural_order.specs.ProgramGraph.{successors_of, bits_of_dep, when_on}
use Rattle.plural_counters.specs.declared.duty.Duty.{Duty}
use Rattle.plural_counters.specs.declared.duty.Duty.TheVariants.{Tell, Decide}
use Rattle.plural_rule.specs.Opening.{task_count}
use Rattle.plural_sync.specs.Pending.{tell_of, IsPending}
use Rattle.plural_sync.proofs.Settled.{kept_then, first_fits, room, edge_bits}
use Rattle.plural_sync.proofs.Tellings.{telling_owed, next_small, next_there, pending_marked, IsToldOn, told_on}
use Rattle.plural_sync.proofs.synchroniser.Synchroniser.tell_next.Goals as goal
use Rattle.plural_sync.proofs.synchroniser.Synchroniser.tell_next.Goals.{After-successors-successors, After-mark_edge, After-go_on}

-- The list is that of the program that the words were opened with.
list_is : (c : After-successors-successors) → c.successors-successors.result.now ≡ successors_of c.args.words.now.opening.program.map.tasks c.args.telling.task
list_is c = c.successors-successors.ensures.value ∙ ap (λ (p : ProgramValue). successors_of p.map.tasks c.args.telling.task) (c.requires.opened ∙ c.requires.program)

next_task : (c : After-successors-successors) → get_or c.successors-successors.result.now c.args.telling.place 0 < task_count c.args.words.now.opening.program
next_task c =
    let x = c.args.telling in
    next_small c.args.words.now c.args.seat.now x.task x.outcome x.place false c.args.pending.now.items c.requires.pending c.successors-successors.result.now (list_is c)

-- The successor depends on the task.
pub bits_of_edge-requires : goal.bits_of_edge-requires
bits_of_edge-requires c =
    let small = next_task (goal.at.bits_of_edge-requires c).After-successors-successors in
    omega (arith, small, ap (λ (p : ProgramValue). length p.map.tasks) c.requires.program)

-- It is a task.
pub mark_edge-requires-clause-task : goal.mark_edge-requires-clause-task
mark_edge-requires-clause-task c = next_task (goal.at.mark_edge-requires-clause-task c).After-successors-successors

-- Its dependency is due to be marked.
pub mark_edge-requires-clause-owes : goal.mark_edge-requires-clause-owes
mark_edge-requires-clause-owes c =
    let x = c.args.telling in
    telling_owed c.args.words.now c.args.seat.now x.task x.outcome x.place false c.args.pending.now.items c.requires.pending

-- It is the one that the task is told to next.
pub mark_edge-requires-clause-place : goal.mark_edge-requires-clause-place
mark_edge-requires-clause-place c =
    let d = (goal.at.mark_edge-requires-clause-place c).After-successors-successors in
    let x = d.args.telling in
    next_there d.args.words.now d.args.seat.now x.task x.outcome x.place false d.args.pending.now.items d.requires.pending d.successors-successors.result.now (list_is d)

-- The bits are those of the dependency.
pub mark_edge-requires-clause-bits : goal.mark_edge-requires-clause-bits
mark_edge-requires-clause-bits c =
    let x = c.args.telling in
    let u = get_or c.successors-successors.result.now x.place 0 in
    let outcome = (first_fits c.args.words.now c.args.seat.now (tell_of x) c.args.pending.now.items c.requires.pending).1 in
    c.bits_of_edge.ensures
    ∙ (ap (λ (p : ProgramValue). option_map_or (λ w. bits_of_dep w x.outcome) (when_on x.task (deps_of p.map.tasks u)) 0) c.requires.program
    ∙ edge_bits c.args.words.now.opening x.task u x.outcome outcome)

-- The seat after the dependency is marked.
between : (c : After-mark_edge) → IsPending c.args.words.now c.mark_edge.new.seat (Tell c.args.telling.task c.args.telling.outcome c.args.telling.place true ∷ []) c.args.pending.now.items
between c = pending_marked c.args.words.now c.args.seat.now c.mark_edge.new.seat c.args.telling c.args.pending.now.items c.requires.pending c.mark_edge.ensures.seat c.mark_edge.ensures.of c.mark_edge.ensures.sound

-- The successor is a task.
pub count_edge-last-requires-clause-task : goal.count_edge-last-requires-clause-task
count_edge-last-requires-clause-task c = next_task (goal.at.count_edge-last-requires-clause-task c).After-successors-successors

-- Its dependency is due to be counted.
pub count_edge-last-requires-clause-owes : goal.count_edge-last-requires-clause-owes
count_edge-last-requires-clause-owes c =
    let x = c.args.telling in
    telling_owed c.args.words.now c.mark_edge.new.seat x.task x.outcome x.place true c.args.pending.now.items (between (goal.at.count_edge-last-requires-clause-owes c).After-mark_edge)

-- It is still the one that the task is told to next.
pub count_edge-last-requires-clause-place : goal.count_edge-last-requires-clause-place
count_edge-last-requires-clause-place c =
    let d = (goal.at.count_edge-last-requires-clause-place c).After-successors-successors in
    let x = c.args.telling in
    next_there c.args.words.now c.mark_edge.new.seat x.task x.outcome x.place true c.args.pending.now.items (between (goal.at.count_edge-last-requires-clause-place c).After-mark_edge) d.successors-successors.result.now (list_is d)

-- There is room for the task to go on.
pub go_on-requires-clause-room : goal.go_on-requires-clause-room
go_on-requires-clause-room c =
    let few : task_count c.args.words.now.opening.program ≤ 256 = omega (arith, c.successors-successors.ensures.few, ap (λ (p : ProgramValue). length p.map.tasks) (c.requires.opened ∙ c.requires.program)) in
    room c.args.words.now c.args.seat.now (tell_of c.args.telling) c.args.pending.now.items c.requires.pending refl few

-- The seat after the dependency is counted, and the tasks that are told then.
told : (c : After-go_on) → IsToldOn c.args.words.now c.args.seat.now c.count_edge-last.new.seat (get_or c.successors-successors.result.now c.args.telling.place 0) c.count_edge-last.result c.go_on.new.pending.items
told c =
    let list = c.successors-successors.ensures.value ∙ ap (λ (p : ProgramValue). successors_of p.map.tasks c.args.telling.task) (c.requires.opened ∙ c.requires.program) in
    told_on c.args.words.now c.args.seat.now c.mark_edge.new.seat c.count_edge-last.new.seat c.args.telling c.args.pending.now.items c.go_on.new.pending.items c.successors-successors.result.now (get_or c.successors-successors.result.now c.args.telling.place 0) c.count_edge-last.result
    c.requires.pending list c.mark_edge.ensures.seat c.mark_edge.ensures.of c.mark_edge.ensures.sound c.count_edge-last.ensures.seat c.count_edge-last.ensures.of c.count_edge-last.ensures.sound c.go_on.ensures

-- A successor whose last dependency was counted is to be decided.
pub decide-requires-clause-pending : goal.decide-requires-clause-pending
decide-requires-clause-pending c =
    let d = told (goal.at.decide-requires-clause-pending c).After-go_on in
    let first : List Duty = Decide (get_or c.successors-successors.result.now c.args.telling.place 0) ∷ [] in
    subst (λ (b : Bool). IsPending c.args.words.now c.count_edge-last.new.seat (cond b first []) c.go_on.new.pending.items) c.if-last.true d.pending

-- After its decision the duties are sound.
pub returns-then-last-clause-kept : goal.returns-then-last-clause-kept
returns-then-last-clause-kept c = kept_then c.args.seat.now c.count_edge-last.new.seat c.decide.new.seat (told (goal.at.returns-then-last-clause-kept c).After-go_on).kept c.decide.ensures.kept

-- It is further then.
pub returns-then-last-clause-further : goal.returns-then-last-clause-further
returns-then-last-clause-further c = omega (arith, c.decide.ensures.further, (told (goal.at.returns-then-last-clause-further c).After-go_on).further)

-- If it waits for more, the tasks that are being told are those that are owed.
pub returns-else-last-clause-pending : goal.returns-else-last-clause-pending
returns-else-last-clause-pending c =
    let d = told (goal.at.returns-else-last-clause-pending c).After-go_on in
    let first : List Duty = Decide (get_or c.successors-successors.result.now c.args.telling.place 0) ∷ [] in
    subst (λ (b : Bool). IsPending c.args.words.now c.count_edge-last.new.seat (cond b first []) c.go_on.new.pending.items) c.if-last.false d.pending

-- The duties are sound then.
pub returns-else-last-clause-kept : goal.returns-else-last-clause-kept
returns-else-last-clause-kept c = (told (goal.at.returns-else-last-clause-kept c).After-go_on).kept

-- It is further then too.
pub returns-else-last-clause-further : goal.returns-else-last-clause-further
returns-else-last-clause-further c = (told (goal.at.returns-else-last-clause-further c).After-go_on).further
