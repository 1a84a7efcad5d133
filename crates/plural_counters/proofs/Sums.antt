-- Sums over lists and below a number, and tests as numbers.
use Rattle.std.proofs.Common.{◌≡◌, ℕ, zero, suc, ◌+◌, ◌<◌, ◌≤◌, ◌≢◌, ◌⊎◌, max, cond, List, [], ◌∷◌, ◌++◌, length, set, get_or, All, Contains, sym, refl, ap, ◌∙◌, subst, inl, inr, arith, eq-eqb, ne_eqb}
use mathlib.Core.Logic.{dite}
use mathlib.Core.Option.{some, some-injective, some-ne-none}
use native.Mathlib.Decide.{ℕ_discrete}
use lib.ListN.{get_elem?}
use Rattle.std.proofs.lemmas.List.Elements.{All-head, All-tail}
use Rattle.plural_order.specs.Sums.{sum_below, sum_over, sign, masked, one_if}
use Rattle.plural_order.proofs.Sums.{below_same}
use Rattle.plural_counters.specs.Duties.{if_equal, one_if_pair}

-- ---- tests as numbers

-- Equal numbers are 1.
pub one_same : (x y : ℕ) → x ≡ y → one_if x y ≡ 1
one_same x y e = ap (λ b. cond b 1 0) (eq-eqb x y e)

-- Other numbers are 0.
pub one_else : (x y : ℕ) → x ≢ y → one_if x y ≡ 0
one_else x y n = ap (λ b. cond b 1 0) (ne_eqb x y n)

-- There is no other case.
pub one_le : (x y : ℕ) → one_if x y ≤ 1
one_le x y = dite (ℕ_discrete x y) (λ e. omega (arith, one_same x y e)) (λ n. omega (arith, one_else x y n))

-- n if the numbers are equal.
pub equal_same : (x y n : ℕ) → x ≡ y → if_equal x y n ≡ n
equal_same x y n e = ap (λ b. cond b n 0) (eq-eqb x y e)

-- 0 if they aren't.
pub equal_else : (x y n : ℕ) → x ≢ y → if_equal x y n ≡ 0
equal_else x y n d = ap (λ b. cond b n 0) (ne_eqb x y d)

-- It rises with n.
pub equal_le : (x y m n : ℕ) → m ≤ n → if_equal x y m ≤ if_equal x y n
equal_le x y m n h = dite (ℕ_discrete x y) (λ e. omega (arith, equal_same x y m e, equal_same x y n e, h)) (λ ne. omega (arith, equal_else x y m ne))

-- Equal pairs are 1.
pub pair_same : (u l t k : ℕ) → u ≡ t → l ≡ k → one_if_pair u l t k ≡ 1
pair_same u l t k e d = equal_same u t (one_if l k) e ∙ one_same l k d

-- Pairs whose first numbers differ are 0.
pub pair_first : (u l t k : ℕ) → u ≢ t → one_if_pair u l t k ≡ 0
pair_first u l t k n = equal_else u t (one_if l k) n

-- Pairs whose second numbers differ are 0.
pub pair_second : (u l t k : ℕ) → l ≢ k → one_if_pair u l t k ≡ 0
pair_second u l t k n = dite (ℕ_discrete u t) (λ e. equal_same u t (one_if l k) e ∙ one_else l k n) (λ ne. pair_first u l t k ne)

-- Two pairs are equal, or 0.
pub pair_cases : (u l t k : ℕ) → ((u ≡ t) × (l ≡ k)) ⊎ (one_if_pair u l t k ≡ 0)
pair_cases u l t k = dite (ℕ_discrete u t) (λ e. dite (ℕ_discrete l k) (λ d. inl (e, d)) (λ n. inr (pair_second u l t k n))) (λ n. inr (pair_first u l t k n))

-- The sign of 0 is 0.
pub sign_none : (n : ℕ) → n ≡ 0 → sign n ≡ 0
sign_none n e = ap (λ b. cond b 0 1) (eq-eqb n 0 e)

-- The sign of every other number is 1.
pub sign_some : (n : ℕ) → 0 < n → sign n ≡ 1
sign_some n h = ap (λ b. cond b 0 1) (ne_eqb n 0 (λ e. omega arith))

-- A sign is 0 or 1.
pub sign_le : (n : ℕ) → sign n ≤ 1
sign_le n = dite (ℕ_discrete n 0) (λ e. omega (arith, sign_none n e)) (λ ne. omega (arith, sign_some n (omega arith)))

-- A number whose sign is 0 is 0.
pub sign_no : (n : ℕ) → sign n ≡ 0 → n ≡ 0
sign_no n e = dite (ℕ_discrete n 0) (λ q. q) (λ ne. absurd (omega (arith, sign_some n (omega arith))))

-- A mask of 0 lets nothing through.
pub mask_shut : (n x : ℕ) → n ≡ 0 → masked n x ≡ 0
mask_shut n x e = ap (λ b. cond b 0 x) (eq-eqb n 0 e)

-- Every other mask lets a number through.
pub mask_open : (n x : ℕ) → 1 ≤ n → masked n x ≡ x
mask_open n x h = ap (λ b. cond b 0 x) (ne_eqb n 0 (λ e. omega arith))

-- A mask lets through no more than there is.
pub mask_le : (n x : ℕ) → masked n x ≤ x
mask_le n x = dite (ℕ_discrete n 0) (λ e. omega (arith, mask_shut n x e)) (λ ne. omega (arith, mask_open n x (omega arith)))

-- A bit x joins a union, the sign of a sum: the sum's part a becomes x.
pub sign_or : (sum later a x : ℕ) → later + a ≡ sum + x → a ≤ x → x ≤ 1 → a ≤ sum → max (sign sum) x ≡ sign later
sign_or sum later a x e h i j = dite (ℕ_discrete x 0)
    (λ z. let same : later ≡ sum = omega arith in omega (arith, ap sign same))
    (λ ne. omega (arith, sign_le sum, sign_some later (omega arith)))

-- ---- sums over lists

module _ {A : Type 0} where
  -- A sum over two lists, one after the other.
  pub sum_append : (f : A → ℕ) (l m : List A) → sum_over f (l ++ m) ≡ sum_over f l + sum_over f m
  sum_append f [] m = omega arith
  sum_append f (x ∷ xs) m = omega (arith, sum_append f xs m)

  -- The sum over a list with w in place of v.
  pub sum_set : (f : A → ℕ) (l : List A) (i : ℕ) (v w : A) → get_elem? l i ≡ some v → sum_over f (set l i w) + f v ≡ sum_over f l + f w
  sum_set f [] i v w e = absurd (some-ne-none v (sym e))
  sum_set f (x ∷ xs) zero v w e = omega (arith, ap f (some-injective x v e))
  sum_set f (x ∷ xs) (suc i) v w e = omega (arith, sum_set f xs i v w e)

  -- A term at a place of the list is no more than the sum.
  pub term_at : (f : A → ℕ) (l : List A) (i : ℕ) (v : A) → get_elem? l i ≡ some v → f v ≤ sum_over f l
  term_at f [] i v e = absurd (some-ne-none v (sym e))
  term_at f (x ∷ xs) zero v e = omega (arith, ap f (some-injective x v e))
  term_at f (x ∷ xs) (suc i) v e = omega (arith, term_at f xs i v e)

  -- So is a term by its place.
  pub term_or : (f : A → ℕ) (l : List A) (i : ℕ) (d : A) → i < length l → f (get_or l i d) ≤ sum_over f l
  term_or f [] i d h = absurd (omega arith)
  term_or f (x ∷ xs) zero d h = omega arith
  term_or f (x ∷ xs) (suc i) d h = omega (arith, term_or f xs i d (omega arith))

  -- A term of the list is no more than the sum.
  pub term_in : (f : A → ℕ) (l : List A) (v : A) → Contains l v → f v ≤ sum_over f l
  term_in f l v c = subst (λ (x : A). f x ≤ sum_over f l) c.2 (term_or f l c.0 v c.1)

  -- Lesser terms have a lesser sum.
  pub sum_le : (f h : A → ℕ) (l : List A) → ((x : A) → f x ≤ h x) → sum_over f l ≤ sum_over h l
  sum_le f h [] less = omega arith
  sum_le f h (x ∷ xs) less = omega (arith, less x, sum_le f h xs less)

  -- So they have if they are lesser for what is so of each of the list.
  pub sum_le_each : (P : A → Type 0) (f h : A → ℕ) (l : List A) → All P l → ((x : A) → P x → f x ≤ h x) → sum_over f l ≤ sum_over h l
  sum_le_each P f h [] a less = omega arith
  sum_le_each P f h (x ∷ xs) a less = omega (arith, less x (All-head P x xs a), sum_le_each P f h xs (All-tail P x xs a) less)

  -- A sum of nothing but 0 is 0.
  pub sum_none : (f : A → ℕ) (l : List A) → ((x : A) → f x ≡ 0) → sum_over f l ≡ 0
  sum_none f [] h = refl
  sum_none f (x ∷ xs) h = omega (arith, h x, sum_none f xs h)

  -- Sums add up as their terms do.
  pub sum_add : (f g h : A → ℕ) (l : List A) → ((x : A) → f x + g x ≡ h x) → sum_over f l + sum_over g l ≡ sum_over h l
  sum_add f g h [] e = refl
  sum_add f g h (x ∷ xs) e = omega (arith, e x, sum_add f g h xs e)

  -- A sum that isn't 0 has a term that isn't.
  pub sum_some : (f : A → ℕ) (l : List A) → 1 ≤ sum_over f l → (x : A) × Contains l x × (1 ≤ f x)
  sum_some f [] h = absurd (omega arith)
  sum_some f (x ∷ xs) h = dite (ℕ_discrete (f x) 0)
      (λ z. let p = sum_some f xs (omega arith) in let c = p.1 in (p.0, (suc c.0, omega (arith, c.1), c.2), p.2))
      (λ ne. (x, (0, omega arith, refl), omega arith))

-- ---- sums below a number

-- A sum of which one part differs.
pub below_change : (f g : ℕ → ℕ) (n i : ℕ) → i < n → ((j : ℕ) → j < n → j ≢ i → f j ≡ g j) → sum_below g n + f i ≡ sum_below f n + g i
below_change f g zero i h same = absurd (omega arith)
below_change f g (suc n) i h same =
    dite (ℕ_discrete i n)
    (λ e. omega (arith, below_same f g n (λ j l. same j (omega arith) (λ d. omega arith)), ap f e, ap g e))
    (λ ne. omega (arith, below_change f g n i (omega arith) (λ j l. same j (omega arith)), same n (omega arith) (λ d. ne (sym d))))

-- A part is no more than the sum.
pub below_term : (f : ℕ → ℕ) (n i : ℕ) → i < n → f i ≤ sum_below f n
below_term f zero i h = absurd (omega arith)
below_term f (suc n) i h = dite (ℕ_discrete i n) (λ d. omega (arith, ap f d)) (λ ne. omega (arith, below_term f n i (omega arith)))

-- A sum of parts of at most 1 is at most their number.
pub below_few : (f : ℕ → ℕ) (n : ℕ) → ((i : ℕ) → f i ≤ 1) → sum_below f n ≤ n
below_few f zero h = omega arith
below_few f (suc n) h = omega (arith, below_few f n h, h n)

-- If it is their number, each is 1.
pub below_full : (f : ℕ → ℕ) (n i : ℕ) → ((j : ℕ) → f j ≤ 1) → sum_below f n ≡ n → i < n → f i ≡ 1
below_full f zero i h e l = absurd (omega arith)
below_full f (suc n) i h e l = dite (ℕ_discrete i n) (λ d. omega (arith, ap f d, h n, below_few f n h)) (λ ne. below_full f n i h (omega (arith, h n, below_few f n h)) (omega arith))

-- A sum of parts that are 1 is their number.
pub below_ones : (f : ℕ → ℕ) (n : ℕ) → ((i : ℕ) → i < n → f i ≡ 1) → sum_below f n ≡ n
below_ones f zero h = refl
below_ones f (suc n) h = omega (arith, below_ones f n (λ i l. h i (omega arith)), h n (omega arith))

-- Lesser parts have a lesser sum.
pub below_le : (f g : ℕ → ℕ) (n : ℕ) → ((t : ℕ) → t < n → f t ≤ g t) → sum_below f n ≤ sum_below g n
below_le f g zero h = omega arith
below_le f g (suc n) h = omega (arith, below_le f g n (λ t l. h t (omega arith)), h n (omega arith))
