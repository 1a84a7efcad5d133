-- Tasks of which the order doesn't reach each have one cycle.
use Rattle.std.proofs.Common.{◌≡◌, ℕ, zero, suc, ◌+◌, ◌<◌, ◌≤◌, List, [], ◌∷◌, ◌++◌, length, get_or, map, refl, sym, ap, ◌∙◌, arith, inl, inr, ⊎_elim}
use Rattle.std.specs.Prelude.{◌⊎◌, ◌==◌, position, Some, None, Option}
use Rattle.std.specs.List.{AllByRecursion, range_with_len}
use Rattle.std.proofs.lemmas.Bool.{cases_lt, cases_order, true≢false, not-true}
use Rattle.std.proofs.lemmas.List.FromFn.{map-range_with_len_more}
use Rattle.plural_map.specs.Value.{TaskValue}
use Rattle.plural_map.specs.Lookup.{name_at}
use Rattle.plural_map.specs.Order.{is_among, order_of}
use Rattle.plural_map.specs.Cycle.{is_left, first_left, walk, IsCycle, IsCycleNamed, AreWithin, ReachesAll, CycleOrWhole, OneCycle}
use Rattle.plural_map.proofs.OrderLemmas.{order_within}
use Rattle.plural_map.proofs.OrderPlaces.{order_long}
use Rattle.plural_map.proofs.OrderCuts.{Distinct, distinct_push, order_distinct}
use Rattle.plural_map.proofs.NumbersBelow.{distinct_all}
use Rattle.plural_map.proofs.LeastNumbers.{least_passes}
use Rattle.plural_map.proofs.CycleLemmas.{no_place, walk_ends, cycle_found}

-- ---- an order as long as the list of tasks

below_each : (n : ℕ) (xs : List ℕ) → ((i : ℕ) → i < length xs → get_or xs i 0 < n) → AllByRecursion (λ x. x < n) xs
below_each n [] h = tt
below_each n (x ∷ xs) h = (h 0 (omega arith), below_each n xs (λ i l. h (suc i) (omega arith)))

-- An order as long as the list of tasks reaches each.
pub long_reaches : (tasks : List TaskValue) → length (order_of tasks) ≡ length tasks → ReachesAll tasks
long_reaches tasks e t l = distinct_all (length tasks) (order_of tasks) (order_distinct tasks) (below_each (length tasks) (order_of tasks) (order_within tasks)) e t l

-- ---- a cycle if it is shorter

-- A cycle of the tasks.
abbrev HasCycle : List TaskValue → Type 0
HasCycle tasks = (cycle : List ℕ) × IsCycle tasks cycle

cycle_from : (fuel n : ℕ) (tasks : List TaskValue) (xs : List ℕ) → length (order_of tasks) < length tasks → AreWithin tasks → xs ≡ map (walk tasks) (range_with_len 0 n) → Distinct xs → length tasks < fuel + n → HasCycle tasks
cycle_from zero n tasks xs h within e d l = absurd (walk_ends tasks n xs h within e d (omega arith))
cycle_from (suc fuel) n tasks xs h within e d l = by (position (λ u. u == walk tasks n) xs) refl (λ f g. cycle_from fuel (n + 1) tasks (xs ++ walk tasks n ∷ []) h within f g (omega arith))
  where
    more : List ℕ
    more = xs ++ walk tasks n ∷ []

    by : (o : Option ℕ) → position (λ u. u == walk tasks n) xs ≡ o → (more ≡ map (walk tasks) (range_with_len 0 (n + 1)) → Distinct more → HasCycle tasks) → HasCycle tasks
    by (Some from) p next = (_, cycle_found tasks xs (walk tasks n) n from h within e refl d p)
    by None p next = next (rw e (sym (map-range_with_len_more (walk tasks) 0 n n (omega arith)))) (distinct_push xs (walk tasks n) d (no_place (walk tasks n) xs p))

-- The order reaches each task, or there is a cycle.
pub cycle_or_whole : CycleOrWhole
cycle_or_whole tasks within = ⊎_elim short long (cases_lt (length (order_of tasks)) (length tasks))
  where
    short : length (order_of tasks) < length tasks → ReachesAll tasks ⊎ ((names : List (List ℕ)) × IsCycleNamed tasks names)
    short l = let c = cycle_from (length tasks + 1) 0 tasks [] l within refl tt (omega arith) in inr (map (name_at tasks) c.0, record { cycle = c.0; found = c.1; named = refl })

    long : length tasks ≤ length (order_of tasks) → ReachesAll tasks ⊎ ((names : List (List ℕ)) × IsCycleNamed tasks names)
    long l = inl (long_reaches tasks (omega (arith, l, order_long tasks)))

-- ---- one cycle

-- Tasks of which the order reaches each have none.
whole_none : (tasks : List TaskValue) (cycle : List ℕ) → ReachesAll tasks → IsCycle tasks cycle → ⊥
whole_none tasks cycle all c =
    true≢false (sym (all (first_left tasks) c.left) ∙ not-true (is_among (first_left tasks) (order_of tasks)) (least_passes (is_left tasks) (length tasks) c.left))

-- The walk of two cycles repeats at one place.
no_later : (tasks : List TaskValue) (a b : List ℕ) (c : IsCycle tasks a) (d : IsCycle tasks b) → c.from + c.size < d.from + d.size → ⊥
no_later tasks a b c d l = let s = c.some in d.differ c.from (c.from + c.size) (omega arith) l (sym c.repeats)

one_end : (tasks : List TaskValue) (a b : List ℕ) (c : IsCycle tasks a) (d : IsCycle tasks b) → c.from + c.size ≡ d.from + d.size
one_end tasks a b c d = elim (cases_order (c.from + c.size) (d.from + d.size)) [
  | inl same ↦ same
  | inr (inl lt) ↦ absurd (no_later tasks a b c d lt)
  | inr (inr gt) ↦ absurd (no_later tasks b a d c gt)
]

-- And begins at one.
no_earlier : (tasks : List TaskValue) (a b : List ℕ) (c : IsCycle tasks a) (d : IsCycle tasks b) → c.from < d.from → ⊥
no_earlier tasks a b c d l =
    let e = one_end tasks a b c d in
    let s = d.some in
    c.differ c.from d.from l (omega (arith, e)) (sym c.repeats ∙ ap (walk tasks) e ∙ d.repeats)

one_begin : (tasks : List TaskValue) (a b : List ℕ) (c : IsCycle tasks a) (d : IsCycle tasks b) → c.from ≡ d.from
one_begin tasks a b c d = elim (cases_order c.from d.from) [
  | inl same ↦ same
  | inr (inl lt) ↦ absurd (no_earlier tasks a b c d lt)
  | inr (inr gt) ↦ absurd (no_earlier tasks b a d c gt)
]

one_list : (tasks : List TaskValue) (a b : List ℕ) → IsCycle tasks a → IsCycle tasks b → a ≡ b
one_list tasks a b c d =
    let from = one_begin tasks a b c d in
    let size : c.size ≡ d.size = omega (arith, from, one_end tasks a b c d) in
    c.is ∙ (λ i. map (walk tasks) (range_with_len (from i) (size i))) ∙ sym d.is

-- Tasks have at most one cycle, and none if the order reaches each.
pub one_cycle : OneCycle
one_cycle tasks = record {
  none = λ names all c. whole_none tasks c.cycle all c.found;
  one = λ names others c d. c.named ∙ ap (map (name_at tasks)) (one_list tasks c.cycle d.cycle c.found d.found) ∙ sym d.named;
}
