use Rattle.std.proofs.Common.{◌+◌, sym, subst}
use Rattle.plural_cache.specs.Cache.{CacheValue, StandsFor, Agrees}
use Rattle.plural_cache.proofs.Stores.{store_stands, store_agrees}
use Rattle.plural_cache.proofs.cache.Cache.store.Goals as goal

-- The answer meets the clause `stands`.
pub returns-clause-stands : goal.returns-clause-stands
returns-clause-stands g c = λ h f.
    let s = c.self.inside in
    let v : CacheValue = record { sets = s.sets; ways = s.ways; held = s.table.items; loads = s.loads; misses = s.misses; stores = s.stores } in
    store_stands v c.self.invariant c.args.a c.args.v c.set_index-s.result c.set_index-s.ensures c.index_mut.result.now c.update.new.self c.index_mut.ensures.value c.update.ensures.order (s.stores + 1) h
    (subst (λ (k : CacheValue). StandsFor k h) (sym c.self.view_is) f)

-- The answer meets the clause `agrees`.
pub returns-clause-agrees : goal.returns-clause-agrees
returns-clause-agrees g c =
    let B = g.B.Bus in
    let s = c.self.inside in
    let bus = c.args.bus.now in
    let v : CacheValue = record { sets = s.sets; ways = s.ways; held = s.table.items; loads = s.loads; misses = s.misses; stores = s.stores } in
    rw c.write.ensures.step.stored
    (store_agrees v c.self.invariant c.args.a c.args.v c.set_index-s.result c.set_index-s.ensures c.index_mut.result.now c.update.new.self c.index_mut.ensures.value c.update.ensures.order (s.stores + 1) (B.told bus) c.requires.within c.update.ensures.eight
    (subst (λ (k : CacheValue). Agrees k (B.told bus)) (sym c.self.view_is) c.requires.agrees))
