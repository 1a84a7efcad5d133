-- Sums, as tests of whether some part isn't 0, and as counts.
use Rattle.std.proofs.Common.{◌≡◌, ◌≢◌, ℕ, zero, suc, ◌+◌, ◌<◌, ◌≤◌, Bool, true, false, not, ◌||◌, eqb, cond, ◌∷◌, refl, sym, ap, ◌∙◌, arith, ◌⊎◌, inl, inr, ⊎_elim}
use Rattle.std.specs.List.{range_with_len, filter}
use Rattle.std.proofs.lemmas.Bool.{both_ways, eq-eqb, ne_eqb, cases_eq, or_cases}
use Rattle.plural_order.specs.Sums.{sum_below, sign, masked, times}

-- The number isn't 0.
abbrev pub nonzero : ℕ → Bool
nonzero n = not (eqb n 0)

-- 1 if the test passes, else 0.
abbrev pub one_of : Bool → ℕ
one_of b = cond b 1 0

nonzero_none : (n : ℕ) → n ≡ 0 → nonzero n ≡ false
nonzero_none n e = ap not (eq-eqb n 0 e)

-- A positive number isn't 0.
pub nonzero_some : (n : ℕ) → 0 < n → nonzero n ≡ true
nonzero_some n h = ap not (ne_eqb n 0 (λ (e : n ≡ 0). omega arith))

-- A number that isn't 0 is positive.
pub some_nonzero : (n : ℕ) → nonzero n ≡ true → 0 < n
some_nonzero n h = ⊎_elim
    (λ (e : n ≡ 0). absurd (both_ways (nonzero n) (nonzero_none n e) h))
    (λ (e : n ≢ 0). let other : n ≢ 0 = e in omega arith)
    (cases_eq n 0)

sign_test : (n : ℕ) → eqb (sign n) 0 ≡ eqb n 0
sign_test n = by (eqb n 0)
  where
    by : (b : Bool) → eqb (cond b 0 1) 0 ≡ b
    by true = refl
    by false = refl

not_not : (b : Bool) → b ≡ not (not b)
not_not true = refl
not_not false = refl

-- The sign of a number is 0 exactly if a test that says that the number isn't 0 fails.
pub sign_zero : (n : ℕ) (b : Bool) → b ≡ nonzero n → eqb (sign n) 0 ≡ not b
sign_zero n b e = sign_test n ∙ (not_not (eqb n 0) ∙ ap not (sym e))

-- A sum isn't 0 if a part isn't.
pub nonzero_add : (a b : ℕ) → nonzero (a + b) ≡ (nonzero a || nonzero b)
nonzero_add a b = ⊎_elim
    (λ (e : a ≡ 0). ap nonzero (let s : a + b ≡ b = omega arith in s) ∙ ap (λ (c : Bool). c || nonzero b) (sym (nonzero_none a e)))
    (λ (e : a ≢ 0). let other : a ≢ 0 = e in nonzero_some (a + b) (omega arith) ∙ ap (λ (c : Bool). c || nonzero b) (sym (nonzero_some a (omega arith))))
    (cases_eq a 0)

-- ---- masks

-- A mask of 1 lets a number through.
pub masked_one : (n x : ℕ) → n ≡ 1 → masked n x ≡ x
masked_one n x e = ap (λ (b : Bool). cond b 0 x) (ne_eqb n 0 (λ (z : n ≡ 0). omega arith))

-- What a mask lets through and isn't 0 isn't 0 by itself.
pub masked_some : (n x : ℕ) → nonzero (masked n x) ≡ true → (1 ≤ n) × (nonzero x ≡ true)
masked_some n x h = ⊎_elim
    (λ (e : n ≡ 0). absurd (both_ways (nonzero (masked n x)) (ap (λ (b : Bool). nonzero (cond b 0 x)) (eq-eqb n 0 e)) h))
    (λ (e : n ≢ 0). let other : n ≢ 0 = e in (omega arith, sym (ap (λ (b : Bool). nonzero (cond b 0 x)) (ne_eqb n 0 e)) ∙ h))
    (cases_eq n 0)

-- ---- sums below a number

-- Some part of a sum that isn't 0 isn't 0.
pub below_some : (f : ℕ → ℕ) (n : ℕ) → nonzero (sum_below f n) ≡ true → (t : ℕ) × (t < n) × (nonzero (f t) ≡ true)
below_some f zero h = absurd cc
below_some f (suc n) h = ⊎_elim
    (λ (e : nonzero (sum_below f n) ≡ true). let r = below_some f n e in let l = r.1 in (r.0, omega arith, r.2))
    (λ (e : nonzero (f n) ≡ true). (n, omega arith, e))
    (or_cases (nonzero (sum_below f n)) (nonzero (f n)) (sym (nonzero_add (sum_below f n) (f n)) ∙ h))

-- A sum of which a part is positive is positive.
pub below_has : (f : ℕ → ℕ) (n t : ℕ) → t < n → 0 < f t → 0 < sum_below f n
below_has f zero t l h = absurd (omega arith)
below_has f (suc n) t l h = ⊎_elim
    (λ (e : t ≡ n). let s : f t ≡ f n = ap f e in omega arith)
    (λ (e : t ≢ n). let other : t ≢ n = e in omega (arith, below_has f n t (omega arith) h))
    (cases_eq t n)

-- Sums of equal parts are equal.
pub below_same : (f g : ℕ → ℕ) (n : ℕ) → ((i : ℕ) → i < n → f i ≡ g i) → sum_below f n ≡ sum_below g n
below_same f g zero h = refl
below_same f g (suc n) h = omega (arith, below_same f g n (λ i l. h i (omega arith)), h n (omega arith))

-- The sum of sums of two is the sum of both sums.
pub below_add : (f g : ℕ → ℕ) (n : ℕ) → sum_below (λ i. f i + g i) n ≡ sum_below f n + sum_below g n
below_add f g zero = refl
below_add f g (suc n) = omega (arith, below_add f g n)

-- A sum of nothing but 0 is 0.
pub below_none : (f : ℕ → ℕ) (n : ℕ) → ((i : ℕ) → i < n → f i ≡ 0) → sum_below f n ≡ 0
below_none f zero h = refl
below_none f (suc n) h = omega (arith, below_none f n (λ i l. h i (omega arith)), h n (omega arith))

-- Each part of a sum that is 0 is 0.
pub below_zero : (f : ℕ → ℕ) (n t : ℕ) → sum_below f n ≡ 0 → t < n → f t ≡ 0
below_zero f n t e l = ⊎_elim
    (λ (z : f t ≡ 0). z)
    (λ (z : f t ≢ 0). let other : f t ≢ 0 = z in absurd (omega (arith, below_has f n t l (omega arith))))
    (cases_eq (f t) 0)

-- One of the numbers below n is x.
pub below_one : (x n : ℕ) → x < n → sum_below (λ i. one_of (eqb x i)) n ≡ 1
below_one x zero h = absurd (omega arith)
below_one x (suc n) h = ⊎_elim
    (λ (e : x ≡ n). omega (arith, below_none (λ i. one_of (eqb x i)) n (λ i l. ap one_of (ne_eqb x i (λ (d : x ≡ i). omega arith))), ap one_of (eq-eqb x n e)))
    (λ (e : x ≢ n). let other : x ≢ n = e in omega (arith, below_one x n (omega arith), ap one_of (ne_eqb x n e)))
    (cases_eq x n)

-- ---- how often a number stands in what a test keeps of a range

times_out : (p : ℕ → Bool) (a n u : ℕ) → (u < a) ⊎ (a + n ≤ u) → times u (filter p (range_with_len a n)) ≡ 0
times_out p a zero u h = refl
times_out p a (suc n) u h = by (p a) (times_out p (a + 1) n u (later h))
  where
    later : (u < a) ⊎ (a + suc n ≤ u) → (u < a + 1) ⊎ ((a + 1) + n ≤ u)
    later (inl l) = inl (omega arith)
    later (inr l) = inr (omega arith)

    other : (u < a) ⊎ (a + suc n ≤ u) → a ≢ u
    other (inl l) = λ e. omega arith
    other (inr l) = λ e. omega arith

    by : (b : Bool) → times u (filter p (range_with_len (a + 1) n)) ≡ 0 → times u (cond b (a ∷ filter p (range_with_len (a + 1) n)) (filter p (range_with_len (a + 1) n))) ≡ 0
    by true k = omega (arith, k, ap one_of (ne_eqb a u (other h)))
    by false k = k

times_in : (p : ℕ → Bool) (a n u : ℕ) → a ≤ u → u < a + n → times u (filter p (range_with_len a n)) ≡ one_of (p u)
times_in p a zero u l h = absurd (omega arith)
times_in p a (suc n) u l h = ⊎_elim
    (λ (e : a ≡ u). here (p a) refl e)
    (λ (e : a ≢ u). let other : a ≢ u = e in later (p a) other (times_in p (a + 1) n u (omega arith) (omega arith)))
    (cases_eq a u)
  where
    here : (b : Bool) → p a ≡ b → a ≡ u → times u (cond b (a ∷ filter p (range_with_len (a + 1) n)) (filter p (range_with_len (a + 1) n))) ≡ one_of (p u)
    here true q e = omega (arith, ap one_of (eq-eqb a u e), times_out p (a + 1) n u (inl (omega arith)), ap (λ (x : ℕ). one_of (p x)) e, ap one_of q)
    here false q e = omega (arith, times_out p (a + 1) n u (inl (omega arith)), ap (λ (x : ℕ). one_of (p x)) e, ap one_of q)

    later : (b : Bool) → a ≢ u → times u (filter p (range_with_len (a + 1) n)) ≡ one_of (p u) → times u (cond b (a ∷ filter p (range_with_len (a + 1) n)) (filter p (range_with_len (a + 1) n))) ≡ one_of (p u)
    later true other k = omega (arith, k, ap one_of (ne_eqb a u other))
    later false other k = k

-- A number below n stands there once if it passes the test.
pub times_range : (p : ℕ → Bool) (n u : ℕ) → u < n → times u (filter p (range_with_len 0 n)) ≡ one_of (p u)
times_range p n u h = times_in p 0 n u (omega arith) (omega arith)

-- Any other stands nowhere there.
pub times_past : (p : ℕ → Bool) (n u : ℕ) → n ≤ u → times u (filter p (range_with_len 0 n)) ≡ 0
times_past p n u h = times_out p 0 n u (inr (omega arith))
