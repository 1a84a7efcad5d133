use Rattle.std.proofs.Common.{◌∙◌, ◌+◌, sym, ap, subst, cond}
use Rattle.plural_cache.specs.Miss.{hits}
use Rattle.plural_cache.specs.Cache.{CacheValue, StandsFor, Agrees}
use Rattle.plural_cache.proofs.Loads.{load_stands, load_reads, load_value, load_agrees}
use Rattle.plural_cache.proofs.cache.Cache.load.Goals as goal

-- The answer meets the clause `value`.
pub returns-clause-value : goal.returns-clause-value
returns-clause-value g c =
    let B = g.B.Bus in
    let s = c.self.inside in
    let bus = c.args.bus.now in
    let v : CacheValue = record { sets = s.sets; ways = s.ways; held = s.table.items; loads = s.loads; misses = s.misses; stores = s.stores } in
    let e = c.load_in-got.ensures in
    e.value ∙ load_value v c.self.invariant c.args.a 0 c.set_index-s.result c.set_index-s.ensures c.index_mut.result.now c.load_in-got.new.set (B.told bus) c.index_mut.ensures.value e.order e.words
    (subst (λ (k : CacheValue). Agrees k (B.told bus)) (sym c.self.view_is) c.requires.agrees) c.requires.lawful

-- The answer meets the clause `stands`.
pub returns-clause-stands : goal.returns-clause-stands
returns-clause-stands g c = λ h f.
    let B = g.B.Bus in
    let s = c.self.inside in
    let bus = c.args.bus.now in
    let v : CacheValue = record { sets = s.sets; ways = s.ways; held = s.table.items; loads = s.loads; misses = s.misses; stores = s.stores } in
    let e = c.load_in-got.ensures in
    load_stands v c.self.invariant c.args.a c.load_in-got.result.misses c.set_index-s.result c.set_index-s.ensures c.index_mut.result.now c.load_in-got.new.set (B.told bus) c.index_mut.ensures.value e.order e.misses h
    (subst (λ (k : CacheValue). StandsFor k h) (sym c.self.view_is) f)

-- The answer meets the clause `reads`.
pub returns-clause-reads : goal.returns-clause-reads
returns-clause-reads g c = λ h f.
    let B = g.B.Bus in
    let s = c.self.inside in
    let bus = c.args.bus.now in
    let v : CacheValue = record { sets = s.sets; ways = s.ways; held = s.table.items; loads = s.loads; misses = s.misses; stores = s.stores } in
    let e = c.load_in-got.ensures in
    e.step.read ∙ ap (λ n. (B.counts bus).reads + n) (load_reads v c.self.invariant c.args.a 0 c.set_index-s.result c.set_index-s.ensures c.index_mut.result.now c.load_in-got.new.set (B.told bus) c.index_mut.ensures.value e.order h
    (subst (λ (k : CacheValue). StandsFor k h) (sym c.self.view_is) f)) ∙ ap (λ (k : CacheValue). (B.counts bus).reads + cond (hits k.sets k.ways h c.args.a) 0 8) c.self.view_is

-- The answer meets the clause `agrees`.
pub returns-clause-agrees : goal.returns-clause-agrees
returns-clause-agrees g c =
    let B = g.B.Bus in
    let s = c.self.inside in
    let bus = c.args.bus.now in
    let v : CacheValue = record { sets = s.sets; ways = s.ways; held = s.table.items; loads = s.loads; misses = s.misses; stores = s.stores } in
    let e = c.load_in-got.ensures in
    rw e.step.same
    (load_agrees v c.self.invariant c.args.a c.load_in-got.result.misses c.set_index-s.result c.set_index-s.ensures c.index_mut.result.now c.load_in-got.new.set (B.told bus) c.index_mut.ensures.value e.order e.words
    (subst (λ (k : CacheValue). Agrees k (B.told bus)) (sym c.self.view_is) c.requires.agrees))
