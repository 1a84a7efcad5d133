use Rattle.std.proofs.Common.{rules, ◌+◌, ◌∙◌, refl, sym, subst, ap}
use Rattle.plural_words.specs.Seen.{SeatSeen}
use Rattle.plural_stages.specs.Engines.{EngineSeen, IsGoing, IsOver}
use Rattle.plural_stages.specs.contracts.engine.Engine as engine
use Rattle.plural_stages.proofs.Lives.{next_of}
use Rattle.plural_stages.proofs.Going.{HasStepped}
use Rattle.plural_stages.proofs.Turns.{placed_by, going_as, ready_to_turn, turn_is, few_so_far, may_read_here, turn_foreseen, stepped_by, one_more, more_than, goes_on, turned_last, none_of, some_of}
use Rattle.plural_stages.proofs.engine.Engine.turn.Goals as goal
use Rattle.plural_stages.proofs.engine.Engine.turn.Goals.{After-turn_through}

-- The call of `turn_through` has what it requires.
pub turn_through-requires : goal.turn_through-requires
turn_through-requires c =
    let w = c.args.words.now in
    let e = engine.the_view c.self.inside in
    let s = c.args.seat.now in
    let h = going_as w.opening c.args.t c.args.k c.args.self.now e s c.self.view_is c.requires.going in
    let p = placed_by _ _ c.args.t _ _ _ c.requires.program c.task-task.ensures.value c.code.ensures c.regions.ensures in
    let r = ready_to_turn w c.args.t c.args.k e s c.requires.of h in
    let few = few_so_far w.opening c.args.t c.args.k e s h in
    record {
      going = h.over;
      sound = r.lent;
      stacked = r.stacked;
      lawful = may_read_here w c.args.t c.args.k _ _ e s c.code.result.now c.regions.result.now r h p;
      loads = few.loads;
      stores = few.stores;
      expected = turn_foreseen w c.args.t c.args.k e s c.code.result.now c.regions.result.now c.requires.of h p;
    }

-- ---- after the turn

-- The engine before it, and after it.
abbrev before : After-turn_through → EngineSeen
before c = engine.the_view c.self.inside

abbrev after : After-turn_through → EngineSeen
after c = record { cache = c.turn_through.new.cache; pairs = c.turn_through.new.buffer; core = c.turn_through.new.hart; start = c.self.inside.start }

-- The engine had an instruction to make.
was_going : (c : After-turn_through) → IsGoing c.args.words.now.opening c.args.t c.args.k (before c) c.args.seat.now
was_going c = going_as c.args.words.now.opening c.args.t c.args.k c.args.self.now (before c) c.args.seat.now c.self.view_is c.requires.going

-- It has made it.
has_stepped : (c : After-turn_through) → HasStepped c.args.words.now c.args.t c.args.k (next_of c.args.words.now.opening c.args.t c.args.k (before c).core.state.count) (before c) (after c) c.args.seat.now c.turn_through.new.bus.seat.now
has_stepped c =
    let w = c.args.words.now in
    let s = c.args.seat.now in
    let p = placed_by _ _ c.args.t _ _ _ c.requires.program c.task-task.ensures.value c.code.ensures c.regions.ensures in
    let call = c.turn_through.ensures in
    stepped_by w c.turn_through.new.bus.words.now c.args.t c.args.k _ _ (before c) (after c) s c.turn_through.new.bus.seat.now (was_going c)
    (turn_is w.opening c.args.t c.args.k (before c) s c.code.result.now c.regions.result.now (was_going c) p) call.keeps.1 call.state refl call.sunk call.sound call.keeps.2

-- It has made one turn more.
pub returns-in-Going-clause-one : goal.returns-in-Going-clause-one
returns-in-Going-clause-one c =
    let d = (goal.at.returns-in-Going-clause-one c).After-turn_through in
    more_than d.args.words.now.opening d.args.t d.args.k d.args.self.now (before d) (after d) d.self.view_is
    (one_more d.args.words.now d.args.t d.args.k (before d) (after d) d.args.seat.now d.turn_through.new.bus.seat.now (was_going d) (has_stepped d))

-- So it has if that was the last.
pub returns-in-Over-clause-one : goal.returns-in-Over-clause-one
returns-in-Over-clause-one c =
    let d = (goal.at.returns-in-Over-clause-one c).After-turn_through in
    more_than d.args.words.now.opening d.args.t d.args.k d.args.self.now (before d) (after d) d.self.view_is
    (one_more d.args.words.now d.args.t d.args.k (before d) (after d) d.args.seat.now d.turn_through.new.bus.seat.now (was_going d) (has_stepped d))

-- It goes on.
pub returns-in-Going-clause-turned : goal.returns-in-Going-clause-turned
returns-in-Going-clause-turned c =
    let d = (goal.at.returns-in-Going-clause-turned c).After-turn_through in
    let f = after d in
    let on = goes_on d.args.words.now d.args.t d.args.k (before d) f d.args.seat.now d.turn_through.new.bus.seat.now (was_going d) (has_stepped d)
    (none_of f.core.state.over (sym c.in-Going.is ∙ d.turn_through.ensures.outcome)) d.turn_through.ensures.within in
    (subst (λ (x : SeatSeen). IsGoing d.args.words.now.opening d.args.t d.args.k f x) (search rules) on.0, on.1 ∙ ap (λ (x : EngineSeen). x.core.state.count + 1) d.self.view_is)

-- It is over.
pub returns-in-Over-clause-turned : goal.returns-in-Over-clause-turned
returns-in-Over-clause-turned c =
    let d = (goal.at.returns-in-Over-clause-turned c).After-turn_through in
    let f = after d in
    let end = c.in-Over.end in
    let last = turned_last d.args.words.now d.args.t d.args.k (before d) f d.args.seat.now d.turn_through.new.bus.seat.now end (was_going d) (has_stepped d)
    (some_of f.core.state.over end (sym c.in-Over.is ∙ d.turn_through.ensures.outcome)) in
    subst (λ (x : SeatSeen). IsOver d.args.words.now.opening d.args.t d.args.k end f x) (search rules) last
