use Rattle.std.proofs.Common.{◌∙◌, ap, subst, replicate, []}
use Rattle.plural_cache.specs.Cache.{CacheValue, IsFresh}
use Rattle.plural_cache.proofs.Stores.{fresh_table}
use Rattle.plural_cache.proofs.cache.Cache.empty.Goals as goal

-- The answer meets the contract.
pub returns : goal.returns
returns c =
    let s = c.self.inside in
    let t = c.clear_sets.new.table.items in
    record {
      fresh = subst (λ (k : CacheValue). IsFresh (record { sets = s.sets; ways = s.ways; held = t; loads = 0; misses = 0; stores = 0 }) k.sets k.ways) c.self.view_is
          (fresh_table s.sets s.ways t (c.clear_sets.ensures ∙ ap (λ n. replicate n []) c.self.invariant.table));
    }
