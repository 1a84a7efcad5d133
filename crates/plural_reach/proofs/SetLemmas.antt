-- Sets of task numbers by their bits.
use Rattle.std.proofs.Common.{ℕ, zero, suc, ◌≡◌, ◌≢◌, ◌⊎◌, ◌+◌, ◌-◌, ◌*◌, ◌/◌, ◌%◌, ◌^◌, ◌<◌, ◌≤◌, min, max, Bool, true, false, arith, refl, sym, ap, ◌∙◌, subst, inl, inr, ⊎_elim, bit_and, bit_or, eq-eqb}
use Rattle.std.specs.Prelude.{◌&&◌, ◌||◌, ◌==◌, nat_lt, if◌then◌else◌, not}
use Rattle.std.specs.Int.{bit_at, w128}
use Rattle.std.proofs.lemmas.Bool.{cases_lt, cases_eq, eqb-true, ne_eqb, lt-ltb, le-ltb}
use Rattle.std.proofs.lemmas.Nat.Bits.{bit_at-zero, shr_and_one, bit_at_or, bit_at_and, bit_at-lt, bit_at_set_same, bit_at_set_other, bit_at-trailing_zeros}
use Rattle.plural_reach.specs.declared.set.TaskSet.{TaskSet}
use Rattle.plural_reach.specs.Sets.{has}

-- ---- one bit

max_test : (x y : ℕ) → x < 2 → y < 2 → (max x y == 1) ≡ ((x == 1) || (y == 1))
max_test zero zero p q = refl
max_test zero (suc zero) p q = refl
max_test (suc zero) zero p q = refl
max_test (suc zero) (suc zero) p q = refl
max_test (suc (suc x)) y p q = absurd (omega arith)
max_test x (suc (suc y)) p q = absurd (omega arith)

min_test : (x y : ℕ) → x < 2 → y < 2 → (min x y == 1) ≡ ((x == 1) && (y == 1))
min_test zero zero p q = refl
min_test zero (suc zero) p q = refl
min_test (suc zero) zero p q = refl
min_test (suc zero) (suc zero) p q = refl
min_test (suc (suc x)) y p q = absurd (omega arith)
min_test x (suc (suc y)) p q = absurd (omega arith)

or_test : (a b i : ℕ) → (bit_at (bit_or a b) i == 1) ≡ ((bit_at a i == 1) || (bit_at b i == 1))
or_test a b i = ap (λ (z : ℕ). z == 1) (bit_at_or a b i) ∙ max_test (bit_at a i) (bit_at b i) (bit_at-lt a i) (bit_at-lt b i)

and_test : (a b i : ℕ) → (bit_at (bit_and a b) i == 1) ≡ ((bit_at a i == 1) && (bit_at b i == 1))
and_test a b i = ap (λ (z : ℕ). z == 1) (bit_at_and a b i) ∙ min_test (bit_at a i) (bit_at b i) (bit_at-lt a i) (bit_at-lt b i)

-- ---- sets

if_or : (c p q r s : Bool) → (if c then p || q else (r || s)) ≡ ((if c then p else r) || (if c then q else s))
if_or true p q r s = refl
if_or false p q r s = refl

if_and : (c p q r s : Bool) → (if c then p && q else (r && s)) ≡ ((if c then p else r) && (if c then q else s))
if_and true p q r s = refl
if_and false p q r s = refl

-- The empty set has no number.
pub has-empty : (u : ℕ) → has (record { low = 0; high = 0 }) u ≡ false
unfolding has
has-empty u = rw (bit_at-zero u, bit_at-zero (u - 128)) (same (nat_lt u 128))
  where
    same : (c : Bool) → (if c then false else false) ≡ false
    same true = refl
    same false = refl

-- The union of two sets has the numbers of either.
pub has-or : (s t : TaskSet) (u : ℕ) → has (record { low = bit_or s.low t.low; high = bit_or s.high t.high }) u ≡ (has s u || has t u)
unfolding has
has-or s t u = rw (or_test s.low t.low u, or_test s.high t.high (u - 128)) (if_or (nat_lt u 128) (bit_at s.low u == 1) (bit_at t.low u == 1) (bit_at s.high (u - 128) == 1) (bit_at t.high (u - 128) == 1))

-- The intersection of two sets has the numbers of both.
pub has-and : (s t : TaskSet) (u : ℕ) → has (record { low = bit_and s.low t.low; high = bit_and s.high t.high }) u ≡ (has s u && has t u)
unfolding has
has-and s t u = rw (and_test s.low t.low u, and_test s.high t.high (u - 128)) (if_and (nat_lt u 128) (bit_at s.low u == 1) (bit_at t.low u == 1) (bit_at s.high (u - 128) == 1) (bit_at t.high (u - 128) == 1))

-- A number below 128 is looked up in the lower half, another in the upper.
has-low : (s : TaskSet) (u : ℕ) → u < 128 → has s u ≡ (bit_at s.low u == 1)
unfolding has
has-low s u h = rw (lt-ltb u 128 h) refl

-- A number from 128 on is told by a bit of the upper half.
has-high : (s : TaskSet) (u : ℕ) → 128 ≤ u → has s u ≡ (bit_at s.high (u - 128) == 1)
unfolding has
has-high s u h = rw (le-ltb u 128 h) refl

-- What the code tests is the bit.
pub test_low : (s : TaskSet) (u : ℕ) → u < 128 → (bit_and (s.low / 2 ^ u) 1 == 1) ≡ has s u
test_low s u h = ap (λ (z : ℕ). z == 1) (shr_and_one s.low u) ∙ sym (has-low s u h)

-- The test of that bit by a shift.
pub test_high : (s : TaskSet) (u : ℕ) → 128 ≤ u → (bit_and (s.high / 2 ^ (u - 128)) 1 == 1) ≡ has s u
test_high s u h = ap (λ (z : ℕ). z == 1) (shr_and_one s.high (u - 128)) ∙ sym (has-high s u h)

-- A number with one bit more.
set_test : (n k i : ℕ) → k < 128 → (bit_at (bit_or n (1 * 2 ^ k % 340282366920938463463374607431768211456)) i == 1) ≡ ((k == i) || (bit_at n i == 1))
set_test n k i h = ⊎_elim
    (λ (e : k ≡ i). rw (eq-eqb k i e) (subst (λ (j : ℕ). (bit_at (bit_or n (1 * 2 ^ k % 340282366920938463463374607431768211456)) j == 1) ≡ true) e (rw (bit_at_set_same w128 n k h) refl)))
    (λ (e : k ≢ i). rw (ne_eqb k i e, bit_at_set_other w128 n k h i (λ (f : i ≡ k). e (sym f))) refl)
    (cases_eq k i)

-- A set with one number below 128 more.
pub has-with_low : (s : TaskSet) (t u : ℕ) → t < 128 → has (record { low = bit_or s.low (1 * 2 ^ t % 340282366920938463463374607431768211456); high = s.high }) u ≡ ((t == u) || has s u)
has-with_low s t u h = ⊎_elim
    (λ (l : u < 128). has-low (record { low = bit_or s.low (1 * 2 ^ t % 340282366920938463463374607431768211456); high = s.high }) u l ∙ (set_test s.low t u h ∙ ap (λ (b : Bool). (t == u) || b) (sym (has-low s u l))))
    (λ (l : 128 ≤ u). has-high (record { low = bit_or s.low (1 * 2 ^ t % 340282366920938463463374607431768211456); high = s.high }) u l ∙ (sym (has-high s u l) ∙ ap (λ (b : Bool). b || has s u) (sym (ne_eqb t u (λ (e : t ≡ u). omega arith)))))
    (cases_lt u 128)

-- A set with one number from 128 on more.
pub has-with_high : (s : TaskSet) (t u : ℕ) → 128 ≤ t → t < 256 → has (record { low = s.low; high = bit_or s.high (1 * 2 ^ (t - 128) % 340282366920938463463374607431768211456) }) u ≡ ((t == u) || has s u)
has-with_high s t u h k = ⊎_elim
    (λ (l : u < 128). has-low (record { low = s.low; high = bit_or s.high (1 * 2 ^ (t - 128) % 340282366920938463463374607431768211456) }) u l ∙ (sym (has-low s u l) ∙ ap (λ (b : Bool). b || has s u) (sym (ne_eqb t u (λ (e : t ≡ u). omega arith)))))
    (λ (l : 128 ≤ u). has-high (record { low = s.low; high = bit_or s.high (1 * 2 ^ (t - 128) % 340282366920938463463374607431768211456) }) u l
    ∙ (set_test s.high (t - 128) (u - 128) (omega arith) ∙ (ap (λ (b : Bool). (t - 128 == u - 128) || b) (sym (has-high s u l)) ∙ ap (λ (b : Bool). b || has s u) (same_shifted l))))
    (cases_lt u 128)
  where
    same_shifted : 128 ≤ u → (t - 128 == u - 128) ≡ (t == u)
    same_shifted l = ⊎_elim
        (λ (e : t ≡ u). eq-eqb (t - 128) (u - 128) (omega arith) ∙ sym (eq-eqb t u e))
        (λ (e : t ≢ u). ne_eqb (t - 128) (u - 128) (λ (f : t - 128 ≡ u - 128). e (omega arith)) ∙ sym (ne_eqb t u e))
        (cases_eq t u)

-- ---- a bit in common

both_one : (x y : ℕ) → x < 2 → y < 2 → min x y ≡ 1 → (x ≡ 1) × (y ≡ 1)
both_one x y p q e = (omega arith, omega arith)

-- Two halves whose common bits aren't 0 have a bit in common.
pub common_bit : (a b : ℕ) → bit_and a b ≢ 0 → bit_and a b < 2 ^ 128 → (i : ℕ) × (i < 128) × (bit_at a i ≡ 1) × (bit_at b i ≡ 1)
common_bit a b some h =
    let p = bit_at-trailing_zeros w128 (bit_and a b) (omega arith) h in
    by_place _ p.0 p.1
  where
    by_place : (i : ℕ) → i < 128 → bit_at (bit_and a b) i ≡ 1 → (i : ℕ) × (i < 128) × (bit_at a i ≡ 1) × (bit_at b i ≡ 1)
    by_place i l e = let m = both_one (bit_at a i) (bit_at b i) (bit_at-lt a i) (bit_at-lt b i) (sym (bit_at_and a b i) ∙ e) in (i, l, m.0, m.1)

-- If they have one, their common bits aren't 0.
pub bit_in_common : (a b i : ℕ) → bit_at a i ≡ 1 → bit_at b i ≡ 1 → bit_and a b ≢ 0
bit_in_common a b i p q e =
    let one : bit_at (bit_and a b) i ≡ 1 = bit_at_and a b i ∙ omega arith in
    let none : bit_at (bit_and a b) i ≡ 0 = ap (λ (z : ℕ). bit_at z i) e ∙ bit_at-zero i in
    omega arith

-- A number that the test tells from 0 isn't 0.
pub nonzero_from : (n : ℕ) → not (n == 0) ≡ true → n ≢ 0
nonzero_from zero h e = absurd cc
nonzero_from (suc n) h e = absurd (omega arith)

-- A number that isn't 0 passes the test.
pub nonzero_when : (n : ℕ) → n ≢ 0 → not (n == 0) ≡ true
nonzero_when n h = rw (ne_eqb n 0 h) refl

-- ---- sets with a number in common

-- A common bit of the lower halves is a common number.
pub number_low : (s t : TaskSet) → (i : ℕ) × (i < 128) × (bit_at s.low i ≡ 1) × (bit_at t.low i ≡ 1) → (u : ℕ) × (has s u ≡ true) × (has t u ≡ true)
number_low s t h = (h.0, has-low s h.0 h.1 ∙ eq-eqb (bit_at s.low h.0) 1 h.2, has-low t h.0 h.1 ∙ eq-eqb (bit_at t.low h.0) 1 h.3)

-- A common bit of the upper halves is a common number.
pub number_high : (s t : TaskSet) → (i : ℕ) × (i < 128) × (bit_at s.high i ≡ 1) × (bit_at t.high i ≡ 1) → (u : ℕ) × (has s u ≡ true) × (has t u ≡ true)
number_high s t h = (h.0 + 128, at s h.2, at t h.3)
  where
    at : (s : TaskSet) → bit_at s.high h.0 ≡ 1 → has s (h.0 + 128) ≡ true
    at s e = let k : h.0 + 128 - 128 ≡ h.0 = omega arith in has-high s (h.0 + 128) (omega arith) ∙ eq-eqb (bit_at s.high (h.0 + 128 - 128)) 1 (ap (bit_at s.high) k ∙ e)

-- A number in both sets is a bit in both lower halves or in both upper ones.
pub number_bits : (s t : TaskSet) (u : ℕ) → has s u ≡ true → has t u ≡ true → ((bit_at s.low u ≡ 1) × (bit_at t.low u ≡ 1)) ⊎ ((bit_at s.high (u - 128) ≡ 1) × (bit_at t.high (u - 128) ≡ 1))
number_bits s t u p q = ⊎_elim
    (λ (l : u < 128). inl (eqb-true (bit_at s.low u) 1 (sym (has-low s u l) ∙ p), eqb-true (bit_at t.low u) 1 (sym (has-low t u l) ∙ q)))
    (λ (l : 128 ≤ u). inr (eqb-true (bit_at s.high (u - 128)) 1 (sym (has-high s u l) ∙ p), eqb-true (bit_at t.high (u - 128)) 1 (sym (has-high t u l) ∙ q)))
    (cases_lt u 128)
