-- The order of tasks that depend on earlier ones alone is that of their declaration.
use Rattle.std.proofs.Common.{◌≡◌, ℕ, zero, suc, ◌+◌, ◌<◌, ◌≤◌, Bool, true, false, eqb, Some, None, List, [], ◌∷◌, ◌++◌, length, get_or, refl, ◌∙◌, inl, inr, arith}
use Rattle.std.specs.Prelude.{◌⊎◌, ◌||◌, slice_get}
use Rattle.std.specs.List.{range_with_len, position_or_len}
use Rattle.std.specs.Option.{option_map_or}
use Rattle.std.proofs.lemmas.Bool.{eqb-false, ne_eqb, lt-ltb}
use Rattle.std.proofs.lemmas.Option.{slice_get_cases}
use Rattle.std.proofs.lemmas.List.Elements.{All-weaker}
use Rattle.std.proofs.lemmas.List.Sums.{position_or_len_is, list_all-from_AllPass}
use Rattle.std.proofs.lemmas.List.FromFn.{get_or-range_with_len, length-range_with_len}
use Rattle.plural_base.proofs.Ranges.{range_push}
use Rattle.plural_map.specs.declared.outcome.Dep.{Dep}
use Rattle.plural_map.specs.Value.{TaskValue}
use Rattle.plural_map.specs.Order.{is_among, has_all_done, is_ready, next_ready, order_from, IsDeclaredInOrder, DeclaredOrder}

-- ---- the numbers from one on

-- A number of the range is among its numbers.
pub among_range : (a n t : ℕ) → a ≤ t → t < a + n → is_among t (range_with_len a n) ≡ true
among_range a zero t low high = absurd (omega arith)
among_range a (suc n) t low high = by_first (eqb a t) refl (λ (l : a + 1 ≤ t). among_range (a + 1) n t l (omega arith))
  where
    by_first : (b : Bool) → eqb a t ≡ b → (a + 1 ≤ t → is_among t (range_with_len (a + 1) n) ≡ true) → (b || is_among t (range_with_len (a + 1) n)) ≡ true
    by_first true e later = refl
    by_first false e later = later (omega (arith, eqb-false a t e))

-- A number past the range isn't.
not_among_range : (a n t : ℕ) → a + n ≤ t → is_among t (range_with_len a n) ≡ false
not_among_range a zero t past = refl
not_among_range a (suc n) t past =
    let e : eqb a t ≡ false = ne_eqb a t (λ (h : a ≡ t). omega arith) in
    rw e (not_among_range (a + 1) n t (omega arith))

-- ---- the next task

-- A number of the range isn't ready.
old_not_ready : (tasks : List TaskValue) (k j : ℕ) → j < k → is_ready tasks (range_with_len 0 k) j ≡ false
old_not_ready tasks k j h = rw (among_range 0 k j (omega arith) (omega arith)) refl

-- The number after the range is ready.
new_ready : (tasks : List TaskValue) (k : ℕ) → IsDeclaredInOrder tasks → k < length tasks → is_ready tasks (range_with_len 0 k) k ≡ true
new_ready tasks k before h = rw (not_among_range 0 k k (omega arith)) (by_task (slice_get_cases tasks k).1)
  where
    by_task : ((x : TaskValue) × (k < length tasks) × (slice_get tasks k ≡ Some x) × (get_or tasks k x ≡ x)) ⊎ ((length tasks ≤ k) × (slice_get tasks k ≡ None)) → option_map_or (has_all_done (range_with_len 0 k)) (slice_get tasks k) false ≡ true
    by_task (inl c) = rw c.2 (list_all-from_AllPass (λ (p : Dep). is_among p.task (range_with_len 0 k)) c.0.deps
        (All-weaker (λ (p : Dep). p.task < k) (λ (p : Dep). is_among p.task (range_with_len 0 k) ≡ true) (λ p l. among_range 0 k p.task (omega arith) (omega arith)) c.0.deps (rw c.3 at (before k c.0 h))))
    by_task (inr c) = absurd (omega (arith, c.0))

-- The next number is the one after the range.
next_at : (tasks : List TaskValue) (k : ℕ) → IsDeclaredInOrder tasks → k < length tasks → next_ready tasks (range_with_len 0 k) ≡ Some k
next_at tasks k before h = rw (at, length-range_with_len 0 (length tasks), lt-ltb k (length tasks) h) refl
  where
    number : (j : ℕ) → j < length tasks → get_or (range_with_len 0 (length tasks)) j 0 ≡ j
    number j l = get_or-range_with_len 0 (length tasks) j 0 l ∙ omega arith

    at : position_or_len (is_ready tasks (range_with_len 0 k)) (range_with_len 0 (length tasks)) ≡ k
    at = position_or_len_is (is_ready tasks (range_with_len 0 k)) (range_with_len 0 (length tasks)) k 0 (rw (length-range_with_len 0 (length tasks)) (omega arith))
        (λ j l. rw (number j (omega arith)) (old_not_ready tasks k j l))
        (λ l. rw (number k h) (new_ready tasks k before h))

-- ---- the whole order

order_from_range : (fuel k : ℕ) (tasks : List TaskValue) → IsDeclaredInOrder tasks → fuel + k ≡ length tasks → order_from fuel tasks (range_with_len 0 k) ≡ range_with_len 0 (length tasks)
unfolding order_from
order_from_range zero k tasks before e = let f : k ≡ length tasks = omega arith in rw f refl
order_from_range (suc fuel) k tasks before e =
    let m : range_with_len 0 (k + 1) ≡ range_with_len 0 k ++ k ∷ [] = range_push k in
    rw (next_at tasks k before (omega arith), ← m) (order_from_range fuel (k + 1) tasks before (omega arith))

-- Tasks that depend on earlier ones alone run in the order of their declaration.
pub declared_order : DeclaredOrder
declared_order tasks before = order_from_range (length tasks) 0 tasks before (omega arith)
