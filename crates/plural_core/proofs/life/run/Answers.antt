use Rattle.std.proofs.Common.{◌≡◌, ◌-◌, ◌∙◌, length, None, Some, sym, subst, refl, ap, arith}
use Rattle.plural_core.specs.Recent.{IsRecent}
use Rattle.plural_base.specs.Told.{Told, Expects}
use Rattle.plural_core.specs.Turn.{Core, place_of, turn}
use Rattle.plural_core.specs.Progress.{core_of, live, end_of}
use Rattle.plural_core.specs.Life.{stay, join, rest_of}
use Rattle.plural_core.proofs.Lives.{idle, more, last, foreseen, expected_on, fine_turn, core_is, live_is, words_kept}
use Rattle.plural_core.proofs.life.run.Goals as goal

-- The invariant of `loop-end` holds at its start.
pub loop-end-init : goal.loop-end-init
loop-end-init g c =
    let P = g.P.DataPort in
    let words = (P.told c.args.port.now).words in
    let same = live_is c.args.hart.now c.progress-at.result c.registers-registers.result c.progress-at.ensures.value c.registers-registers.ensures.value c.requires.going in
    let k = ap (λ (h : Core). h.k) same in
    let budget = ap (λ (h : Core). h.budget) same in
    let count = ap (λ (h : Core). h.state.count) same in
    let room = c.requires.room in
    let loads = c.requires.loads in
    let stores = c.requires.stores in
    record {
      room = omega (arith, room, count, budget);
      limit = c.progress-at.ensures.limit;
      zero = c.registers-registers.ensures.zero;
      k = k;
      budget = budget;
      recent = c.none-recent.ensures c.args.regions.now c.progress-at.result.k;
      sound = c.requires.sound;
      loads = omega (arith, loads, count);
      stores = omega (arith, stores, count);
      expected = subst (λ (h : Core). Expects (P.told c.args.port.now).expects (rest_of c.args.code.now c.args.regions.now h words).stores) (sym same) c.requires.expected;
      made = (
        stay c.args.hart.now.state words,
        idle P.told P.counts P.stands_for P.keeps P.is_sound c.args.port.now c.args.hart.now.state (g.met.P.DataPort.keeps_none c.args.port.now) c.requires.sound,
        ap (λ (h : Core). rest_of c.args.code.now c.args.regions.now h words) same,
      );
    }

-- The call of `turn_by` has what its clause `expected` requires.
pub turn_by-requires-clause-expected : goal.turn_by-requires-clause-expected
turn_by-requires-clause-expected g c =
    let i = c.loop-end.invariant in
    let P = g.P.DataPort in
    let core = live c.loop-end.at c.loop-end.registers in
    foreseen core.budget (place_of c.args.code.now c.args.regions.now core) core.state (P.told c.loop-end.port).words (P.told c.loop-end.port).expects refl i.room i.expected

-- A turn of `loop-end` makes its measure smaller.
pub loop-end-smaller : goal.loop-end-smaller
loop-end-smaller g c =
    let i = c.loop-end.invariant in
    let P = g.P.DataPort in
    let core = live c.loop-end.at c.loop-end.registers in
    let p = place_of c.args.code.now c.args.regions.now core in
    let goes = ap (λ o. core_of c.turn_by.new.at c.turn_by.new.registers (end_of o)) (sym c.in-Going.is) ∙ c.turn_by.ensures.state in
    let still = sym (ap (λ (h : Core). h.state.over) goes) in
    let budget = ap (λ (h : Core). h.budget) goes in
    let counts = (fine_turn p core.state (P.told c.loop-end.port).words).goes still in
    let count = ap (λ (h : Core). h.state.count) goes in
    let below = c.turn_by.ensures.within (ap end_of c.in-Going.is) in
    omega (arith, i.room, counts, count, budget, below)

-- A turn of `loop-end` keeps its invariant.
pub loop-end-preserved : goal.loop-end-preserved
loop-end-preserved g c =
    let i = c.loop-end.invariant in
    let P = g.P.DataPort in
    let core = live c.loop-end.at c.loop-end.registers in
    let p = place_of c.args.code.now c.args.regions.now core in
    let m = (P.told c.loop-end.port).words in
    let t = turn p core.state m in
    let goes : live c.turn_by.new.at c.turn_by.new.registers ≡ record core { state = t.state } =
    ap (λ o. core_of c.turn_by.new.at c.turn_by.new.registers (end_of o)) (sym c.in-Going.is) ∙ c.turn_by.ensures.state in
    let words = (P.told c.turn_by.new.port).words in
    let k = ap (λ (h : Core). h.k) goes in
    let budget = ap (λ (h : Core). h.budget) goes in
    let count = ap (λ (h : Core). h.state.count) goes in
    let still : t.state.over ≡ None = sym (ap (λ (h : Core). h.state.over) goes) in
    let fine = fine_turn p core.state m in
    let counts = fine.goes still in
    let made = c.turn_by.ensures.port in
    let limit = i.limit in
    record {
      room = c.turn_by.ensures.within (ap end_of c.in-Going.is);
      limit = omega (arith, limit, budget);
      zero = c.turn_by.ensures.zero;
      k = k ∙ i.k;
      budget = budget ∙ i.budget;
      recent = subst (λ n. IsRecent c.args.regions.now n c.turn_by.new.recent) (sym k) c.turn_by.ensures.recent;
      sound = made.sound;
      loads = omega (arith, i.loads, made.read, fine.few_loads, counts, count);
      stores = omega (arith, i.stores, made.written, fine.few_stores, counts, count);
      expected = subst (λ (h : Core). Expects (P.told c.turn_by.new.port).expects (rest_of c.args.code.now c.args.regions.now h words).stores) (sym goes)
          (rw made.stored (expected_on core.budget p core.state m (P.told c.loop-end.port).expects refl i.room still i.expected));
      made = let next = more P.told P.counts P.stands_for P.keeps P.is_sound g.met.P.DataPort.keeps_both c.args.port.now c.loop-end.port c.turn_by.new.port core.budget p core.state i.made.0 _ refl i.room still i.made.1 made i.made.2 in
          (next.0, next.1, subst (λ (h : Core). join next.0 (rest_of c.args.code.now c.args.regions.now h words) ≡ rest_of c.args.code.now c.args.regions.now c.args.hart.now (P.told c.args.port.now).words) (sym goes) next.2);
    }

-- The answer at `in-Over` meets the clause `state`.
pub returns-in-Over-clause-state : goal.returns-in-Over-clause-state
returns-in-Over-clause-state g c =
    let i = c.loop-end.invariant in
    let P = g.P.DataPort in
    let core = live c.loop-end.at c.loop-end.registers in
    let ends = ap (λ o. core_of c.turn_by.new.at c.turn_by.new.registers (end_of o)) (sym c.in-Over.is) ∙ c.turn_by.ensures.state in
    let over = sym (ap (λ (h : Core). h.state.over) ends) in
    let l = last P.told P.counts P.stands_for P.keeps P.is_sound g.met.P.DataPort.keeps_both c.args.port.now c.loop-end.port c.turn_by.new.port core.budget (place_of c.args.code.now c.args.regions.now core) core.state i.made.0 _ c.in-Over.end refl i.room over i.made.1 c.turn_by.ensures.port i.made.2 in
    c.ended.ensures ∙ core_is (core_of c.turn_by.new.at c.turn_by.new.registers (Some c.in-Over.end)) _ _ _ (ap (λ (h : Core). h.state) ends ∙ sym l.1) (ap (λ (h : Core). h.k) ends ∙ i.k) (ap (λ (h : Core). h.budget) ends ∙ i.budget)

-- The answer at `in-Over` meets the clause `port`.
pub returns-in-Over-clause-port : goal.returns-in-Over-clause-port
returns-in-Over-clause-port g c =
    let i = c.loop-end.invariant in
    let P = g.P.DataPort in
    let core = live c.loop-end.at c.loop-end.registers in
    let ends = ap (λ o. core_of c.turn_by.new.at c.turn_by.new.registers (end_of o)) (sym c.in-Over.is) ∙ c.turn_by.ensures.state in
    let over = sym (ap (λ (h : Core). h.state.over) ends) in
    (last P.told P.counts P.stands_for P.keeps P.is_sound g.met.P.DataPort.keeps_both c.args.port.now c.loop-end.port c.turn_by.new.port core.budget (place_of c.args.code.now c.args.regions.now core) core.state i.made.0 _ c.in-Over.end refl i.room over i.made.1 c.turn_by.ensures.port i.made.2).0

-- The answer at `in-Over` meets the clause `words`.
pub returns-in-Over-clause-words : goal.returns-in-Over-clause-words
returns-in-Over-clause-words g c =
    let i = c.loop-end.invariant in
    let P = g.P.DataPort in
    let core = live c.loop-end.at c.loop-end.registers in
    let ends = ap (λ o. core_of c.turn_by.new.at c.turn_by.new.registers (end_of o)) (sym c.in-Over.is) ∙ c.turn_by.ensures.state in
    let over = sym (ap (λ (h : Core). h.state.over) ends) in
    let made = (last P.told P.counts P.stands_for P.keeps P.is_sound g.met.P.DataPort.keeps_both c.args.port.now c.loop-end.port c.turn_by.new.port core.budget (place_of c.args.code.now c.args.regions.now core) core.state i.made.0 _ c.in-Over.end refl i.room over i.made.1 c.turn_by.ensures.port i.made.2).0 in
    ap (λ (t : Told). length t.words) made.stored ∙ words_kept (c.args.hart.now.budget - c.args.hart.now.state.count) (place_of c.args.code.now c.args.regions.now c.args.hart.now) c.args.hart.now.state (P.told c.args.port.now).words
