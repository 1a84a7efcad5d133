-- What a cache over a bus keeps holds of no change and of two changes in turn.
use Rattle.std.proofs.Common.{◌∙◌, refl, arith}
use Rattle.plural_base.specs.Told.{Counted}
use Rattle.plural_cache.specs.Cache.{CacheValue}
use Rattle.plural_serial.specs.Cached.{KeepsCounts}

-- If nothing changes, the differences stay.
pub counts_none : (c : CacheValue) (n : Counted) → KeepsCounts c c n n
counts_none c n = record { read = refl; written = refl; sets = refl; ways = refl }

-- Through two changes in turn the differences stay.
pub counts_both : (c d e : CacheValue) (l m n : Counted) → KeepsCounts c d l m → KeepsCounts d e m n
    → KeepsCounts c e l n
counts_both c d e l m n h k = record {
  read = let x = h.read in let y = k.read in omega arith;
  written = let x = h.written in let y = k.written in omega arith;
  sets = k.sets ∙ h.sets;
  ways = k.ways ∙ h.ways;
}
