-- The order cut at a task, which stands nowhere else in it.
use Rattle.std.proofs.Common.{◌≡◌, ◌<◌, ℕ, zero, suc, Bool, true, false, ◌||◌, eqb, List, [], ◌∷◌, ◌++◌, length, get_or, take, Option, Some, None, refl, sym, ap, ◌∙◌, arith, eqb-true, length-append, ⊎_elim}
use Rattle.std.specs.Prelude.{slice_index, slice_get, ◌==◌}
use Rattle.std.specs.Option.{option_map_or}
use Rattle.std.proofs.lemmas.Bool.{eq-eqb, false_from_ne_true, or_parts, or_cases, true≢false}
use Rattle.std.proofs.lemmas.List.{take_at, get_or_at}
use Rattle.std.proofs.lemmas.List.Folds.{list_any-append}
use Rattle.std.proofs.lemmas.Option.{get_or_from_slice_get}
use Rattle.plural_map.specs.Value.{TaskValue}
use Rattle.plural_map.specs.Order.{is_among, has_all_done, next_ready, order_from, order_of}
use Rattle.plural_map.proofs.OrderLemmas.{among_push, ready_new, ready_task, next_is_ready, order_ready}

-- ---- lists of numbers without a repeat

-- No number stands twice.
abbrev pub Distinct : List ℕ → Type 0
Distinct [] = Unit {0}
Distinct (x ∷ xs) = (is_among x xs ≡ false) × Distinct xs

eqb_back : (x t : ℕ) → eqb x t ≡ false → eqb t x ≡ false
eqb_back x t e = false_from_ne_true (eqb t x) (λ h. true≢false (sym (eq-eqb x t (sym (eqb-true t x h))) ∙ e))

-- One more number that isn't among them keeps it so.
pub distinct_push : (xs : List ℕ) (t : ℕ) → Distinct xs → is_among t xs ≡ false → Distinct (xs ++ t ∷ [])
distinct_push [] t d n = (refl, tt)
distinct_push (x ∷ xs) t d n =
    let p = or_parts (eqb x t) (is_among t xs) n in
    (among_push xs t x ∙ rw (d.0, eqb_back x t p.0) refl, distinct_push xs t d.1 p.1)

distinct_from : (fuel : ℕ) (tasks : List TaskValue) (done : List ℕ) → Distinct done → Distinct (order_from fuel tasks done)
unfolding order_from
distinct_from zero tasks done d = d
distinct_from (suc fuel) tasks done d = by (next_ready tasks done) refl (λ t. distinct_from fuel tasks (done ++ t ∷ []))
  where
    by : (n : Option ℕ) → next_ready tasks done ≡ n → ((t : ℕ) → Distinct (done ++ t ∷ []) → Distinct (order_from fuel tasks (done ++ t ∷ []))) → Distinct (option_map_or (λ t. order_from fuel tasks (done ++ t ∷ [])) n done)
    by None e more = d
    by (Some t) e more = more t (distinct_push done t d (ready_new tasks done t (next_is_ready tasks done t e)))

-- No number stands twice in the order.
pub order_distinct : (tasks : List TaskValue) → Distinct (order_of tasks)
order_distinct tasks = distinct_from (length tasks) tasks [] tt

-- The numbers of two lists in a row.
among_append : (t : ℕ) (xs ys : List ℕ) → is_among t (xs ++ ys) ≡ (is_among t xs || is_among t ys)
among_append t xs ys = list_any-append (λ u. u == t) xs ys

-- Of two lists in a row without a repeat, the second has no number of the first.
pub distinct_apart : (xs ys : List ℕ) (t : ℕ) → Distinct (xs ++ ys) → is_among t xs ≡ true → is_among t ys ≡ false
distinct_apart [] ys t d h = absurd cc
distinct_apart (x ∷ xs) ys t d h = ⊎_elim
    (λ (e : eqb x t ≡ true). (or_parts (is_among t xs) (is_among t ys) (sym (among_append t xs ys) ∙ (ap (λ (u : ℕ). is_among u (xs ++ ys)) (sym (eqb-true x t e)) ∙ d.0))).1)
    (λ (e : is_among t xs ≡ true). distinct_apart xs ys t d.1 e)
    (or_cases (eqb x t) (is_among t xs) h)

-- ---- cuts

-- A list with a number in the middle, which stands nowhere else.
pub record IsCut (xs : List ℕ) (t : ℕ) : Type 0 where
  pub front : List ℕ
  pub back : List ℕ
  pub is : xs ≡ front ++ t ∷ back
  pub not_front : is_among t front ≡ false
  pub not_back : is_among t back ≡ false

-- A list without a repeat is cut at each of its numbers.
pub cut_at : (xs : List ℕ) (t : ℕ) → Distinct xs → is_among t xs ≡ true → IsCut xs t
cut_at [] t d h = absurd cc
cut_at (x ∷ xs) t d h = by (eqb x t) refl (λ k. cut_at xs t d.1 k) h
  where
    by : (b : Bool) → eqb x t ≡ b → (is_among t xs ≡ true → IsCut xs t) → (b || is_among t xs) ≡ true → IsCut (x ∷ xs) t
    by true e later k = let s = eqb-true x t e in record { front = []; back = xs; is = ap (λ (y : ℕ). y ∷ xs) s; not_front = refl; not_back = ap (λ (y : ℕ). is_among y xs) (sym s) ∙ d.0 }
    by false e later k = let c = later k in record { front = x ∷ c.front; back = c.back; is = ap (λ (l : List ℕ). x ∷ l) c.is; not_front = ap (λ (b : Bool). b || is_among t c.front) e ∙ c.not_front; not_back = c.not_back }

-- The tasks that the one at a cut of the order depends on stand before it.
pub deps_before : (tasks : List TaskValue) (front : List ℕ) (t : ℕ) (back : List ℕ) (d : TaskValue) → order_of tasks ≡ front ++ t ∷ back → has_all_done front (get_or tasks t d) ≡ true
deps_before tasks front t back d e =
    let n = length front in
    let l : n < length (order_of tasks) = omega (arith, ap length e, length-append front (t ∷ back)) in
    let r = ready_task tasks (take n (order_of tasks)) (slice_index (order_of tasks) n) (order_ready tasks n l) in
    let front_is : take n (order_of tasks) ≡ front = ap (take n) e ∙ take_at front (t ∷ back) n refl in
    let t_is : slice_index (order_of tasks) n ≡ t = ap (λ (xs : List ℕ). get_or xs n 0) e ∙ get_or_at front t back 0 n refl in
    let there : slice_get tasks t ≡ Some r.0 = ap (λ (x : ℕ). slice_get tasks x) (sym t_is) ∙ r.1 in
    let task : get_or tasks t d ≡ r.0 = get_or_from_slice_get tasks t r.0 d there in
    ap (λ (x : TaskValue). has_all_done front x) task ∙ (ap (λ (xs : List ℕ). has_all_done xs r.0) (sym front_is) ∙ r.2)
