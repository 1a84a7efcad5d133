-- The numbers of an entry's line that are in their ranges.
use Rattle.std.proofs.Common.{◌≡◌, ℕ, ◌<◌, Bool, true, false, ◌||◌, List, refl, arith}
use Rattle.std.proofs.lemmas.Bool.Decides.{nat_tests}
use Rattle.plural_log.specs.declared.line.EndShape.{EndShape}
use Rattle.plural_log.specs.declared.line.Counts.{Counts}
use Rattle.plural_log.specs.declared.line.Times.{Times}
use Rattle.plural_log.specs.declared.line.LogLine.TheVariants as line
use Rattle.plural_log.specs.Faults.{is_large, is_no_end, has_large_count, has_large_time, is_out_of_range}

neither : (a b : Bool) → (a || b) ≡ false → (a ≡ false) × (b ≡ false)
neither true b e = absurd cc
neither false b e = (refl, e)

fits : (n : ℕ) → is_large n ≡ false → n < 4294967296
fits n h = grind (arith, nat_tests)

-- Each number of the line is below 2^32.
pub record IsInRange (k : ℕ) (e : EndShape) (c : Counts) (t : Times) : Type 0 where
  pub number : k < 4294967296
  pub ended : is_no_end e ≡ false
  pub counts : (c.instructions < 4294967296) × (c.loads < 4294967296) × (c.misses < 4294967296) × (c.stores < 4294967296)
  pub times : (t.core < 4294967296) × (t.start < 4294967296) × (t.end_at < 4294967296)

counts_fit : (c : Counts) → has_large_count c ≡ false → (c.instructions < 4294967296) × (c.loads < 4294967296) × (c.misses < 4294967296) × (c.stores < 4294967296)
counts_fit c h =
    let a = neither (is_large c.instructions || is_large c.loads || is_large c.misses) (is_large c.stores) h in
    let b = neither (is_large c.instructions || is_large c.loads) (is_large c.misses) a.0 in
    let d = neither (is_large c.instructions) (is_large c.loads) b.0 in
    (fits c.instructions d.0, fits c.loads d.1, fits c.misses b.1, fits c.stores a.1)

times_fit : (t : Times) → has_large_time t ≡ false → (t.core < 4294967296) × (t.start < 4294967296) × (t.end_at < 4294967296)
times_fit t h =
    let a = neither (is_large t.core || is_large t.start) (is_large t.end_at) h in
    let b = neither (is_large t.core) (is_large t.start) a.0 in
    (fits t.core b.0, fits t.start b.1, fits t.end_at a.1)

-- A line without a fault of number has its numbers in their ranges.
pub run_fits : (name : List ℕ) (k : ℕ) (e : EndShape) (c : Counts) (t : Times) → is_out_of_range (line.Run name k e c t) ≡ false → IsInRange k e c t
run_fits name k e c t h =
    let a = neither (is_large k || is_no_end e || has_large_count c) (has_large_time t) h in
    let b = neither (is_large k || is_no_end e) (has_large_count c) a.0 in
    let d = neither (is_large k) (is_no_end e) b.0 in
    record { number = fits k d.0; ended = d.1; counts = counts_fit c b.1; times = times_fit t a.1 }
