-- The least number below a bound that passes a test.
use Rattle.std.proofs.Common.{◌≡◌, ℕ, ◌<◌, ◌≤◌, Bool, true, false, Some, None, get_or, ◌∙◌, arith}
use Rattle.std.specs.Prelude.{position}
use Rattle.std.specs.List.{range_with_len, position_or_len}
use Rattle.std.proofs.lemmas.List.Sums.{position_or_len_is, fails_before_first, passes_at_first}
use Rattle.std.proofs.lemmas.List.FromFn.{get_or-range_with_len, length-range_with_len}
use Rattle.plural_base.proofs.ListTests.{found_at, found_none, none_found}

number : (n j : ℕ) → j < n → get_or (range_with_len 0 n) j 0 ≡ j
number n j l = get_or-range_with_len 0 n j 0 l ∙ omega arith

-- It is this one if this one passes and no number before does.
pub least_is : (p : ℕ → Bool) (n t : ℕ) → t ≤ n → ((u : ℕ) → u < t → p u ≡ false) → (t < n → p t ≡ true) → position_or_len p (range_with_len 0 n) ≡ t
least_is p n t h before here =
    position_or_len_is p (range_with_len 0 n) t 0 (rw (length-range_with_len 0 n) h)
    (λ u l. rw (number n u (omega arith)) (before u l))
    (λ l. let m : t < n = omega (arith, l, length-range_with_len 0 n) in rw (number n t m) (here m))

-- So the answer is this one.
pub least_found : (p : ℕ → Bool) (n t : ℕ) → t < n → ((u : ℕ) → u < t → p u ≡ false) → p t ≡ true → position p (range_with_len 0 n) ≡ Some t
least_found p n t l before here = found_at p (range_with_len 0 n) t (least_is p n t (omega arith) before (λ m. here)) (rw (length-range_with_len 0 n) l)

-- If none passes, there is no answer.
pub least_none : (p : ℕ → Bool) (n k : ℕ) → n ≤ k → ((u : ℕ) → u < k → p u ≡ false) → position p (range_with_len 0 n) ≡ None
least_none p n k h before =
    let e = least_is p n n (omega arith) (λ u l. before u (omega arith)) (λ l. absurd (omega arith)) in
    found_none p (range_with_len 0 n) (omega (arith, e, length-range_with_len 0 n))

-- If it is below the bound, it passes.
pub least_passes : (p : ℕ → Bool) (n : ℕ) → position_or_len p (range_with_len 0 n) < n → p (position_or_len p (range_with_len 0 n)) ≡ true
least_passes p n l =
    let h = passes_at_first p (range_with_len 0 n) 0 (omega (arith, l, length-range_with_len 0 n)) in
    rw (number n (position_or_len p (range_with_len 0 n)) l) at h

-- If it is the bound, no number below does.
pub least_fails : (p : ℕ → Bool) (n u : ℕ) → n ≤ position_or_len p (range_with_len 0 n) → u < n → p u ≡ false
least_fails p n u h l = rw (number n u l) at (fails_before_first p (range_with_len 0 n) u 0 (omega arith))

-- If there is no answer, no number below passes.
pub none_passes : (p : ℕ → Bool) (n u : ℕ) → position p (range_with_len 0 n) ≡ None → u < n → p u ≡ false
none_passes p n u e l = least_fails p n u (omega (arith, none_found p (range_with_len 0 n) e, length-range_with_len 0 n)) l
