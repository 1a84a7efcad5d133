-- Places in a list of numbers and in the order; the order has each task once.
use Rattle.std.proofs.Common.{◌≡◌, ℕ, zero, suc, ◌+◌, ◌<◌, ◌≤◌, Bool, true, false, ◌||◌, eqb, ltb, cond, List, [], ◌∷◌, ◌++◌, length, take, get_or, Option, Some, None, refl, sym, ap, subst, ◌∙◌, arith, inl, inr}
use Rattle.std.specs.Prelude.{slice_index}
use Rattle.std.specs.Option.{option_map_or}
use Rattle.std.proofs.lemmas.Bool.{eq-eqb, eqb-true, ne_eqb, lt-ltb, le-ltb, or_right, cases_order, true≢false}
use Rattle.std.proofs.lemmas.List.{length_push, take_all, get_or_default}
use Rattle.plural_map.specs.Value.{TaskValue}
use Rattle.plural_map.specs.Order.{is_among, next_ready, order_from, order_of}
use Rattle.plural_map.specs.WholeOrder.{WholeOrder}
use Rattle.plural_map.proofs.OrderLemmas.{order_new, order_within}

-- ---- places

-- A number among the first i has a place below i.
pub record IsAt (xs : List ℕ) (i t : ℕ) : Type 0 where
  pub at : ℕ
  pub below : at < i
  pub within : at < length xs
  pub there : get_or xs at 0 ≡ t

-- A number among the first i is found there.
pub found_in : (xs : List ℕ) (i t : ℕ) → is_among t (take i xs) ≡ true → IsAt xs i t
found_in xs zero t h = absurd cc
found_in [] (suc i) t h = absurd cc
found_in (x ∷ xs) (suc i) t h = by (eqb x t) (λ k. found_in xs i t k) refl h
  where
    by : (b : Bool) → (is_among t (take i xs) ≡ true → IsAt xs i t) → eqb x t ≡ b → (b || is_among t (take i xs)) ≡ true → IsAt (x ∷ xs) (suc i) t
    by true later e k = record { at = 0; below = omega arith; within = omega arith; there = eqb-true x t e }
    by false later e k = let f = later k in let b = f.below in let w = f.within in record { at = suc f.at; below = omega arith; within = omega arith; there = f.there }

-- The number at a place below i is among the first i.
among_first : (xs : List ℕ) (i k : ℕ) → k < i → k < length xs → is_among (get_or xs k 0) (take i xs) ≡ true
among_first [] i k b w = absurd (omega arith)
among_first (x ∷ xs) zero k b w = absurd (omega arith)
among_first (x ∷ xs) (suc i) zero b w = ap (λ c. c || is_among x (take i xs)) (eq-eqb x x refl)
among_first (x ∷ xs) (suc i) (suc k) b w = or_right (eqb x (get_or xs k 0)) (is_among (get_or xs k 0) (take i xs)) (among_first xs i k (omega arith) (omega arith))

-- A number among the first i is among the first j, if these are no fewer.
pub among_more : (xs : List ℕ) (i j t : ℕ) → i ≤ j → is_among t (take i xs) ≡ true → is_among t (take j xs) ≡ true
among_more xs i j t le h =
    let f = found_in xs i t h in
    let b = f.below in
    subst (λ u. is_among u (take j xs) ≡ true) f.there (among_first xs j f.at (omega arith) f.within)

-- Numbers of the order at different places differ.
pub places_differ : (tasks : List TaskValue) (i j : ℕ) → i < j → j < length (order_of tasks) → slice_index (order_of tasks) i ≡ slice_index (order_of tasks) j → ⊥
places_differ tasks i j lt l e =
    let a = among_first (order_of tasks) j i lt (omega arith) in
    true≢false (sym a ∙ ap (λ u. is_among u (take j (order_of tasks))) e ∙ order_new tasks j l)

-- A number among those of the order is that of a task.
pub among_within : (tasks : List TaskValue) (t : ℕ) → is_among t (order_of tasks) ≡ true → t < length tasks
among_within tasks t h =
    let order = order_of tasks in
    let whole : take (length order) order ≡ order = take_all (length order) order (omega arith) in
    let f = found_in order (length order) t (ap (is_among t) whole ∙ h) in
    subst (λ (u : ℕ). u < length tasks) f.there (order_within tasks f.at f.within)

-- ---- how long the order is

order_from_long : (fuel : ℕ) (tasks : List TaskValue) (done : List ℕ) → length (order_from fuel tasks done) ≤ fuel + length done
unfolding order_from
order_from_long zero tasks done = omega arith
order_from_long (suc fuel) tasks done = by (next_ready tasks done) (λ t. order_from_long fuel tasks (done ++ t ∷ []))
  where
    by : (n : Option ℕ) → ((t : ℕ) → length (order_from fuel tasks (done ++ t ∷ [])) ≤ fuel + length (done ++ t ∷ [])) → length (option_map_or (λ t. order_from fuel tasks (done ++ t ∷ [])) n done) ≤ suc fuel + length done
    by None more = omega arith
    by (Some t) more = let m = more t in omega (arith, m, length_push done t)

-- The order is no longer than the list of tasks.
pub order_long : (tasks : List TaskValue) → length (order_of tasks) ≤ length tasks
order_long tasks = let h = order_from_long (length tasks) tasks [] in omega (arith, h)

-- 1 if a test passes.
abbrev pub one_if : Bool → ℕ
one_if b = cond b 1 0

-- How many of the numbers below n are among a list.
abbrev pub hits : ℕ → List ℕ → ℕ
hits zero xs = 0
hits (suc n) xs = hits n xs + one_if (is_among n xs)

hits_none : (n : ℕ) → hits n [] ≡ 0
hits_none zero = refl
hits_none (suc n) = omega (arith, hits_none n)

-- One number more is at most one of them, and none if it isn't below n.
hits_one : (n x : ℕ) (xs : List ℕ) → hits n (x ∷ xs) ≤ hits n xs + one_if (ltb x n)
hits_one zero x xs = omega arith
hits_one (suc n) x xs = elim (cases_order x n) [
  | inl same ↦
      rw (eq-eqb x n same, lt-ltb x (suc n) (omega arith)) (omega (arith, hits_one n x xs, none x n (omega arith)))
  | inr (inl lt) ↦ rw (ne_eqb x n (λ e. omega arith), lt-ltb x (suc n) (omega arith)) (omega (arith, hits_one n x xs, some x n lt))
  | inr (inr gt) ↦ rw (ne_eqb x n (λ e. omega arith), le-ltb x (suc n) (omega arith)) (omega (arith, hits_one n x xs, none x n (omega arith)))
]
  where
    some : (x n : ℕ) → x < n → one_if (ltb x n) ≡ 1
    some x n l = ap one_if (lt-ltb x n l)

    none : (x n : ℕ) → n ≤ x → one_if (ltb x n) ≡ 0
    none x n l = ap one_if (le-ltb x n l)

-- They are no more than the list is long.
pub hits_few : (n : ℕ) (xs : List ℕ) → hits n xs ≤ length xs
hits_few n [] = omega (arith, hits_none n)
hits_few n (x ∷ xs) = let one = most (ltb x n) in omega (arith, hits_one n x xs, hits_few n xs, one)
  where
    most : (b : Bool) → one_if b ≤ 1
    most true = omega arith
    most false = omega arith

-- All of them, if each is.
pub hits_all : (n : ℕ) (xs : List ℕ) → ((t : ℕ) → t < n → is_among t xs ≡ true) → hits n xs ≡ n
hits_all zero xs h = refl
hits_all (suc n) xs h = omega (arith, hits_all n xs (λ t l. h t (omega arith)), ap one_if (h n (omega arith)))

-- ---- the law

-- The order of a map has each task once.
pub whole_order : WholeOrder
whole_order m limits = record {
  reaches = limits.reaches;
  within = λ i d l. rw (get_or_default m.order i d 0 l) (subst (λ (us : List ℕ). get_or us i 0 < length m.tasks) (sym ordered) (order_within m.tasks i (subst (λ (us : List ℕ). i < length us) ordered l)));
  differ = λ i j d lt l e.
      places_differ m.tasks i j lt (subst (λ (us : List ℕ). j < length us) ordered l)
      (ap (λ (us : List ℕ). get_or us i 0) (sym ordered) ∙ (sym (get_or_default m.order i d 0 (omega arith)) ∙ (e ∙ (get_or_default m.order j d 0 l ∙ ap (λ (us : List ℕ). get_or us j 0) ordered))));
  one_each = omega (arith, ap length ordered, order_long m.tasks, hits_all (length m.tasks) m.order limits.reaches, hits_few (length m.tasks) m.order);
}
  where
    ordered : m.order ≡ order_of m.tasks
    ordered = limits.ordered
