-- The cycle that a walk comes to.
use Rattle.std.proofs.Common.{◌≡◌, ℕ, zero, suc, ◌+◌, ◌-◌, ◌<◌, ◌≤◌, true, false, Some, None, Result, Ok, Err, List, [], ◌∷◌, length, take, drop, get_or, map, refl, sym, ap, subst, ◌∙◌, arith}
use Rattle.std.specs.Prelude.{position, IfOk, ◌==◌, ◌≢◌}
use Rattle.std.specs.List.{All, AllByRecursion, range_with_len}
use Rattle.std.proofs.lemmas.Bool.{eqb-true}
use Rattle.std.proofs.lemmas.List.{take_all, length-drop}
use Rattle.std.proofs.lemmas.List.FromFn.{length-map-range_with_len, get_or-map-range_with_len}
use Rattle.std.proofs.lemmas.List.Quantifiers.{position-Some}
use Rattle.plural_base.specs.declared.memory.Memory.{Memory}
use Rattle.plural_base.proofs.ListTests.{HasNone, none_when}
use Rattle.plural_map.specs.Value.{TaskValue}
use Rattle.plural_map.specs.Lookup.{name_at}
use Rattle.plural_map.specs.Order.{is_among, order_of}
use Rattle.plural_map.specs.Cycle.{first_left, next_left, walk, IsCycle, IsCycleNamed, AreWithin}
use Rattle.plural_map.proofs.OrderCuts.{Distinct}
use Rattle.plural_map.proofs.NumbersBelow.{distinct_few, distinct_places}
use Rattle.plural_map.proofs.WalkLemmas.{walk_is}

-- ---- lists of a function's values

drop_range : {X : Type 0} (f : ℕ → X) (a n k : ℕ) → k ≤ n → drop k (map f (range_with_len a n)) ≡ map f (range_with_len (a + k) (n - k))
drop_range f a n zero h = let s : a + 0 ≡ a = omega arith in let m : n - 0 ≡ n = omega arith in rw (s, m) refl
drop_range f a zero (suc k) h = absurd (omega arith)
drop_range f a (suc n) (suc k) h = let s : a + suc k ≡ (a + 1) + k = omega arith in let m : suc n - suc k ≡ n - k = omega arith in rw (s, m) (drop_range f (a + 1) n k (omega arith))

none_among : (t : ℕ) (xs : List ℕ) → HasNone (λ u. u == t) xs → is_among t xs ≡ false
none_among t [] h = refl
none_among t (x ∷ xs) h = rw (h.0, none_among t xs h.1) refl

-- A number that has no place in a list isn't one of it.
pub no_place : (t : ℕ) (xs : List ℕ) → position (λ u. u == t) xs ≡ None → is_among t xs ≡ false
no_place t xs e = none_among t xs (none_when (λ u. u == t) xs e)

-- ---- numbers of the walk

-- Each number of a part of the walk is that of a task.
pub walked_below : (tasks : List TaskValue) (a n : ℕ) (xs : List ℕ) → length (order_of tasks) < length tasks → AreWithin tasks → xs ≡ map (walk tasks) (range_with_len a n) → All (λ t. t < length tasks) xs
walked_below tasks a n xs h within e = λ k d l.
    let m : k < n = omega (arith, l, ap length e, length-map-range_with_len (walk tasks) a n) in
    let is : get_or xs k d ≡ walk tasks (a + k) = ap (λ (ys : List ℕ). get_or ys k d) e ∙ get_or-map-range_with_len (walk tasks) a n k (a + k) d m refl in
    subst (λ (t : ℕ). t < length tasks) (sym is) (walk_is tasks (a + k) h within).below

below_all : (tasks : List TaskValue) (xs : List ℕ) → All (λ t. t < length tasks) xs → AllByRecursion (λ t. t < length tasks) xs
below_all tasks [] h = tt
below_all tasks (x ∷ xs) h = (h 0 0 (omega arith), below_all tasks xs (λ k d l. h (suc k) d (omega arith)))

-- The walk has a repeat before it has more numbers than there are tasks.
pub walk_ends : (tasks : List TaskValue) (n : ℕ) (xs : List ℕ) → length (order_of tasks) < length tasks → AreWithin tasks → xs ≡ map (walk tasks) (range_with_len 0 n) → Distinct xs → length tasks < n → ⊥
walk_ends tasks n xs h within e d l =
    omega (arith, distinct_few (length tasks) xs d (below_all tasks xs (walked_below tasks 0 n xs h within e)), ap length e, length-map-range_with_len (walk tasks) 0 n)

-- ---- the cycle

-- The part of the walk from a place on.
pub part_is : (tasks : List TaskValue) (xs : List ℕ) (n from : ℕ) → xs ≡ map (walk tasks) (range_with_len 0 n) → from < length xs → take (length xs - from) (drop from xs) ≡ map (walk tasks) (range_with_len from (n - from))
part_is tasks xs n from e l =
    let count : length xs ≡ n = ap length e ∙ length-map-range_with_len (walk tasks) 0 n in
    let zero_from : 0 + from ≡ from = omega arith in
    take_all (length xs - from) (drop from xs) (omega (arith, length-drop from xs))
    ∙ ap (drop from) e ∙ drop_range (walk tasks) 0 n from (omega arith) ∙ ap (λ (a : ℕ). map (walk tasks) (range_with_len a (n - from))) zero_from

first_below : (tasks : List TaskValue) → length (order_of tasks) < length tasks → AreWithin tasks → first_left tasks < length tasks
unfolding walk
first_below tasks h within = (walk_is tasks 0 h within).below

-- The walk goes on to the least task that isn't reached and that its last depends on.
pub walk_next : (tasks : List TaskValue) (k : ℕ) → walk tasks (k + 1) ≡ next_left tasks (walk tasks k)
unfolding walk
walk_next tasks k = let s : k + 1 ≡ suc k = omega arith in rw s refl

-- Where the next number stands in the walk already, the cycle is the walk from there on.
pub cycle_found : (tasks : List TaskValue) (xs : List ℕ) (t n from : ℕ) → length (order_of tasks) < length tasks → AreWithin tasks → xs ≡ map (walk tasks) (range_with_len 0 n) → t ≡ walk tasks n → Distinct xs
    → position (λ u. u == t) xs ≡ Some from → IsCycle tasks (take (length xs - from) (drop from xs))
cycle_found tasks xs t n from h within e next d p =
    record { left = left; from = from; size = n - from; some = omega (arith, below); differ = differ; repeats = repeats; is = part_is tasks xs n from e found.0 }
  where
    found : (from < length xs) × ((get_or xs from 0 == t) ≡ true) × ((k : ℕ) → k < from → (get_or xs k 0 == t) ≡ false)
    found = position-Some (λ u. u == t) xs from 0 p

    count : length xs ≡ n
    count = ap length e ∙ length-map-range_with_len (walk tasks) 0 n

    below : from < n
    below = omega (arith, found.0, count)

    at : (k : ℕ) → k < n → get_or xs k 0 ≡ walk tasks k
    at k l = ap (λ (ys : List ℕ). get_or ys k 0) e ∙ get_or-map-range_with_len (walk tasks) 0 n k k 0 l (omega arith)

    left : first_left tasks < length tasks
    left = first_below tasks h within

    differ : (i j : ℕ) → i < j → j < from + (n - from) → walk tasks i ≢ walk tasks j
    differ i j lt l s = let b : from < n = below in distinct_places xs i j d lt (omega (arith, count)) (at i (omega arith) ∙ s ∙ sym (at j (omega arith)))

    repeats : walk tasks (from + (n - from)) ≡ walk tasks from
    repeats = let m : from + (n - from) ≡ n = omega (arith, below) in rw m (sym next ∙ sym (eqb-true (get_or xs from 0) t found.1) ∙ at from below)

-- Its names are those of the cycle.
pub named : (tasks : List TaskValue) (numbers : List ℕ) (r : Result (List (List ℕ)) Memory) → IfOk r (λ n. n ≡ map (name_at tasks) numbers) → IsCycle tasks numbers → IfOk r (IsCycleNamed tasks)
named tasks numbers (Ok names) h f = record { cycle = numbers; found = f; named = h }
named tasks numbers (Err e) h f = tt
