-- The order of the tasks: each number in it was ready among those before it.
use Rattle.std.proofs.Common.{◌≡◌, ℕ, zero, suc, ◌<◌, ◌≤◌, true, false, Some, None, Option, List, [], ◌∷◌, ◌++◌, length, get_or, take, refl, ap, ◌∙◌, subst, ⊎_elim, arith}
use Rattle.std.specs.Prelude.{◌||◌, ◌==◌, slice_get, not, slice_index}
use Rattle.std.specs.List.{range_with_len}
use Rattle.std.specs.Option.{option_map_or}
use Rattle.std.proofs.lemmas.List.{length_push, get_or_at, get_or_append_left, take-append-le, take_at}
use Rattle.std.proofs.lemmas.Option.{slice_get_within}
use Rattle.std.proofs.Math.Bool.{or-false}
use Rattle.std.proofs.lemmas.Bool.{cases_lt, eq-eqb, and_parts, or_right, not-true}
use Rattle.std.proofs.lemmas.List.Folds.{list_any-append}
use Rattle.std.proofs.lemmas.List.FromFn.{get_or-range_with_len, length-range_with_len}
use Rattle.std.proofs.lemmas.List.Quantifiers.{position-Some}
use Rattle.plural_map.specs.Value.{TaskValue}
use Rattle.plural_map.specs.Order.{is_among, has_all_done, is_ready, next_ready, order_from, order_of}

-- ---- what it is to be ready

-- A number that is ready isn't among those done.
pub ready_new : (tasks : List TaskValue) (done : List ℕ) (t : ℕ) → is_ready tasks done t ≡ true → is_among t done ≡ false
ready_new tasks done t r = not-true _ (and_parts _ _ r).0

-- A number that is ready is that of a task all of whose dependencies are among those done.
pub ready_task : (tasks : List TaskValue) (done : List ℕ) (t : ℕ) → is_ready tasks done t ≡ true → (task : TaskValue) × (slice_get tasks t ≡ Some task) × (has_all_done done task ≡ true)
ready_task tasks done t r = by_task (slice_get tasks t) refl (and_parts (not (is_among t done)) _ r).1
  where
    by_task : (o : Option TaskValue) → slice_get tasks t ≡ o → option_map_or (has_all_done done) o false ≡ true → (task : TaskValue) × (slice_get tasks t ≡ Some task) × (has_all_done done task ≡ true)
    by_task None e h = absurd cc
    by_task (Some task) e h = (task, e, h)

-- A number that is ready is below the count of tasks.
pub ready_within : (tasks : List TaskValue) (done : List ℕ) (t : ℕ) → is_ready tasks done t ≡ true → t < length tasks
ready_within tasks done t r = let h = ready_task tasks done t r in slice_get_within tasks t h.0 h.1

-- The next number is ready.
pub next_is_ready : (tasks : List TaskValue) (done : List ℕ) (t : ℕ) → next_ready tasks done ≡ Some t → is_ready tasks done t ≡ true
next_is_ready tasks done t e =
    let p = position-Some (is_ready tasks done) (range_with_len 0 (length tasks)) t 0 e in
    let l : t < length tasks = rw length-range_with_len at p.0 in
    let k : get_or (range_with_len 0 (length tasks)) t 0 ≡ t = omega (arith, get_or-range_with_len 0 (length tasks) t 0 l) in
    subst (λ (u : ℕ). is_ready tasks done u ≡ true) k p.1

-- ---- the order

-- Each number of a list was ready among those before it.
record IsOrdered (tasks : List TaskValue) (done : List ℕ) : Type 0 where
  pub ready : (i : ℕ) → i < length done → is_ready tasks (take i done) (get_or done i 0) ≡ true

-- One more number that is ready keeps a list ordered.
ordered_push : (tasks : List TaskValue) (done : List ℕ) (t : ℕ) → IsOrdered tasks done → is_ready tasks done t ≡ true → IsOrdered tasks (done ++ t ∷ [])
ordered_push tasks done t o r = record {
  ready = λ i h. ⊎_elim (earlier i) (last i h) (cases_lt i (length done));
}
  where
    earlier : (i : ℕ) → i < length done → is_ready tasks (take i (done ++ t ∷ [])) (get_or (done ++ t ∷ []) i 0) ≡ true
    earlier i l = rw (take-append-le i done (t ∷ []) (omega arith), get_or_append_left done (t ∷ []) 0 i l) (o.ready i l)

    last : (i : ℕ) → i < length (done ++ t ∷ []) → length done ≤ i → is_ready tasks (take i (done ++ t ∷ [])) (get_or (done ++ t ∷ []) i 0) ≡ true
    last i h l =
        let e : length done ≡ i = omega (arith, length_push done t) in
        rw (take_at done (t ∷ []) i e, get_or_at done t [] 0 i e) r

-- Going on from an ordered list keeps it ordered.
order_from_ordered : (fuel : ℕ) (tasks : List TaskValue) (done : List ℕ) → IsOrdered tasks done → IsOrdered tasks (order_from fuel tasks done)
unfolding order_from
order_from_ordered zero tasks done o = o
order_from_ordered (suc fuel) tasks done o = by_next (next_ready tasks done) refl (λ t. order_from_ordered fuel tasks (done ++ t ∷ []))
  where
    by_next : (n : Option ℕ) → next_ready tasks done ≡ n → ((t : ℕ) → IsOrdered tasks (done ++ t ∷ []) → IsOrdered tasks (order_from fuel tasks (done ++ t ∷ [])))
        → IsOrdered tasks (option_map_or (λ t. order_from fuel tasks (done ++ t ∷ [])) n done)
    by_next None e more = o
    by_next (Some t) e more = more t (ordered_push tasks done t o (next_is_ready tasks done t e))

-- Each number of the order is ready among those before it.
pub order_ready : (tasks : List TaskValue) (i : ℕ) → i < length (order_of tasks) → is_ready tasks (take i (order_of tasks)) (slice_index (order_of tasks) i) ≡ true
order_ready tasks i h = (order_from_ordered (length tasks) tasks [] (record { ready = λ i h. absurd (omega arith) })).ready i h

-- Each number of the order is that of a task.
pub order_within : (tasks : List TaskValue) (i : ℕ) → i < length (order_of tasks) → slice_index (order_of tasks) i < length tasks
order_within tasks i h = ready_within tasks (take i (order_of tasks)) (slice_index (order_of tasks) i) (order_ready tasks i h)

-- No number of the order stands before itself.
pub order_new : (tasks : List TaskValue) (i : ℕ) → i < length (order_of tasks) → is_among (slice_index (order_of tasks) i) (take i (order_of tasks)) ≡ false
order_new tasks i h = ready_new tasks (take i (order_of tasks)) (slice_index (order_of tasks) i) (order_ready tasks i h)

-- ---- numbers among those done

-- The element at a place of a list is among its elements.
pub among_at : (done : List ℕ) (i : ℕ) → i < length done → is_among (get_or done i 0) done ≡ true
among_at [] i h = absurd (omega arith)
among_at (u ∷ done) zero h = ap (λ b. b || is_among u done) (eq-eqb u u refl)
among_at (u ∷ done) (suc i) h = or_right (u == get_or done i 0) (is_among (get_or done i 0) done) (among_at done i (omega arith))

-- A number is among those done and one more if it is among those done or is that one.
pub among_push : (done : List ℕ) (t u : ℕ) → is_among u (done ++ t ∷ []) ≡ (is_among u done || (t == u))
among_push done t u = list_any-append (λ v. v == u) done (t ∷ []) ∙ ap (λ b. is_among u done || b) (or-false (t == u))
