use Rattle.std.proofs.Common.{rules, refl, subst}
use Rattle.plural_words.specs.Seen.{SeatSeen}
use Rattle.plural_stages.specs.Engines.{EngineSeen, IsOver}
use Rattle.plural_stages.specs.contracts.engine.Engine as engine
use Rattle.plural_stages.proofs.Turns.{placed_by, going_as, ready_to_run, rest_is, few_so_far, may_read_here, rest_expected, stepped_by, ran_out, room_in}
use Rattle.plural_stages.proofs.engine.Engine.run.Goals as goal

-- The call of `run_through` has what it requires.
pub run_through-end-requires : goal.run_through-end-requires
run_through-end-requires c =
    let w = c.args.words.now in
    let e = engine.the_view c.self.inside in
    let s = c.args.seat.now in
    let h = going_as w.opening c.args.t c.args.k c.args.self.now e s c.self.view_is c.requires.going in
    let p = placed_by _ _ c.args.t _ _ _ c.requires.program c.task-task.ensures.value c.code.ensures c.regions.ensures in
    let r = ready_to_run w c.args.t c.args.k e s c.requires.of h in
    let few = few_so_far w.opening c.args.t c.args.k e s h in
    record {
      going = h.over;
      room = room_in w.opening c.args.t c.args.k e s h;
      sound = r.lent;
      stacked = r.stacked;
      lawful = may_read_here w c.args.t c.args.k _ _ e s c.code.result.now c.regions.result.now r h p;
      loads = few.loads;
      stores = few.stores;
      expected = rest_expected w c.args.t c.args.k e s c.code.result.now c.regions.result.now c.requires.of h p;
    }

-- It is over.
pub returns-clause-over : goal.returns-clause-over
returns-clause-over c =
    let w = c.args.words.now in
    let e = engine.the_view c.self.inside in
    let f : EngineSeen = record { cache = c.run_through-end.new.cache; pairs = c.run_through-end.new.buffer; core = c.run_through-end.new.hart; start = c.self.inside.start } in
    let s = c.args.seat.now in
    let n = c.run_through-end.new.bus.seat.now in
    let h = going_as w.opening c.args.t c.args.k c.args.self.now e s c.self.view_is c.requires.going in
    let p = placed_by _ _ c.args.t _ _ _ c.requires.program c.task-task.ensures.value c.code.ensures c.regions.ensures in
    let call = c.run_through-end.ensures in
    let st = stepped_by w c.run_through-end.new.bus.words.now c.args.t c.args.k _ _ e f s n h (rest_is w.opening c.args.t c.args.k e s c.code.result.now c.regions.result.now h p) call.keeps.1
    call.state refl call.sunk call.sound call.keeps.2 in
    let end = c.run_through-end.result in
    subst (λ (x : SeatSeen). IsOver w.opening c.args.t c.args.k end f x) (search rules) (ran_out w c.args.t c.args.k e f s n end h st call.end)
