-- Which tasks have outcomes in a serial run: those of the order so far.
use Rattle.std.proofs.Common.{ℕ, ◌≡◌, ◌≢◌, ◌+◌, ◌<◌, ◌≤◌, ◌||◌, ◌&&◌, ◌==◌, Bool, true, false, List, [], ◌∷◌, ◌++◌, length, get_or, take, Option, Some, None, is_some, IsSome, refl, ap, sym, ◌∙◌, subst, ⊎_elim, arith, get_or-set_other}
use Rattle.std.specs.Prelude.{slice_set, slice_index, slice_index_or}
use Rattle.std.specs.List.{All, list_all}
use Rattle.std.proofs.lemmas.Grind.{get_or-set_at}
use Rattle.std.proofs.lemmas.Bool.{cases_eq}
use Rattle.std.proofs.lemmas.Bool.Decides.{nat_tests}
use Rattle.std.proofs.lemmas.List.{take_more, take_all, get_or_default}
use Rattle.std.proofs.lemmas.List.Folds.{list_any-append}
use Rattle.std.proofs.lemmas.Option.{get_or_from_slice_get}
use Rattle.plural_map.specs.declared.outcome.Dep.{Dep}
use Rattle.plural_map.specs.declared.outcome.Outcome.{Outcome}
use Rattle.plural_map.specs.Value.{TaskValue, MapValue, no_task}
use Rattle.plural_map.specs.Limits.{IsMap}
use Rattle.plural_map.specs.Decisions.{outcome_at, HasPredecessors}
use Rattle.plural_map.specs.Order.{is_among, has_all_done, order_of}
use Rattle.plural_map.proofs.OrderLemmas.{order_ready, order_within, ready_task}

-- Each task of the list has an outcome.
pub record HasOutcomes (done : List ℕ) (outcomes : List (Option Outcome)) : Type 0 where
  pub each : (u : ℕ) → is_among u done ≡ true → is_some (outcome_at outcomes u) ≡ true

-- Before the first task nothing is asked.
none_done : (outcomes : List (Option Outcome)) → HasOutcomes [] outcomes
none_done outcomes = record { each = λ u h. absurd cc }

-- One more outcome.
one_done : (done : List ℕ) (outcomes : List (Option Outcome)) (t : ℕ) (o : Outcome) → t < length outcomes → HasOutcomes done outcomes → HasOutcomes (done ++ t ∷ []) (slice_set outcomes t (Some o))
one_done done outcomes t o h s = record {
  each = λ u a. ⊎_elim
      (λ (e : u ≡ t). ap is_some (get_or-set_at outcomes t u (Some o) None e h))
      (λ (n : u ≢ t). let n' : u ≢ t = n in rw get_or-set_other (s.each u (before u n' a)))
      (cases_eq u t);
}
  where
    before : (u : ℕ) → u ≢ t → is_among u (done ++ t ∷ []) ≡ true → is_among u done ≡ true
    before u n a =
        let split : is_among u (done ++ t ∷ []) ≡ (is_among u done || ((t == u) || false)) = list_any-append (λ v. v == u) done (t ∷ []) in
        let other : (t == u) ≡ false = grind (arith, nat_tests) in
        grind (arith, nat_tests, split, other, a)

-- The first i tasks of an order, and the next.
pub more_done : (order : List ℕ) (outcomes : List (Option Outcome)) (i t : ℕ) (o : Outcome) → i < length order → t ≡ get_or order i 0 → t < length outcomes
    → HasOutcomes (take i order) outcomes → HasOutcomes (take (i + 1) order) (slice_set outcomes t (Some o))
more_done order outcomes i t o h at within s =
    let e : take i order ++ t ∷ [] ≡ take (i + 1) order = ap (λ (u : ℕ). take i order ++ u ∷ []) at ∙ sym (take_more order i 0 h) in
    subst (λ (done : List ℕ). HasOutcomes done (slice_set outcomes t (Some o))) e (one_done (take i order) outcomes t o within s)

-- What holds of each dependency makes what it implies hold of each.
all_imply : (p q : Dep → Bool) → ((d : Dep) → p d ≡ true → q d ≡ true) → (ds : List Dep) → list_all p ds ≡ true → list_all q ds ≡ true
all_imply p q f [] h = refl
all_imply p q f (d ∷ ds) h = by_head (p d) (f d) (all_imply p q f ds) h
  where
    by_head : (b : Bool) → (b ≡ true → q d ≡ true) → (list_all p ds ≡ true → list_all q ds ≡ true) → (b && list_all p ds) ≡ true → (q d && list_all q ds) ≡ true
    by_head true g more k = let e = g refl in rw e (more k)
    by_head false g more k = absurd cc

-- The i-th task of a map's order is one of its tasks.
pub next_within : (m : MapValue) (items : List ℕ) (i : ℕ) → IsMap m → items ≡ m.order → i < length items → get_or items i 0 < length m.tasks
next_within m items i limits is h =
    let e : items ≡ order_of m.tasks = is ∙ limits.ordered in
    subst (λ (us : List ℕ). get_or us i 0 < length m.tasks) (sym e) (order_within m.tasks i (subst (λ (us : List ℕ). i < length us) e h))

-- The predecessors of the i-th task of a map's order have outcomes if the tasks before it have.
pub predecessors_there : (m : MapValue) (items : List ℕ) (outcomes : List (Option Outcome)) (i : ℕ) → IsMap m → items ≡ m.order → i < length items
    → HasOutcomes (take i items) outcomes → HasPredecessors (slice_index_or m.tasks (get_or items i 0) no_task) outcomes
predecessors_there m items outcomes i limits is h s =
    let e : items ≡ order_of m.tasks = is ∙ limits.ordered in
    let ready = order_ready m.tasks i (subst (λ (us : List ℕ). i < length us) e h) in
    let found = ready_task m.tasks (take i (order_of m.tasks)) (slice_index (order_of m.tasks) i) ready in
    let task : slice_index_or m.tasks (get_or items i 0) no_task ≡ found.0 =
    ap (λ (us : List ℕ). slice_index_or m.tasks (get_or us i 0) no_task) e ∙ get_or_from_slice_get m.tasks (slice_index (order_of m.tasks) i) found.0 no_task found.1 in
    let done : has_all_done (take i items) found.0 ≡ true = subst (λ (us : List ℕ). has_all_done (take i us) found.0 ≡ true) (sym e) found.2 in
    subst (λ (x : TaskValue). HasPredecessors x outcomes) (sym task)
    (all_imply (λ d. is_among d.task (take i items)) (λ d. is_some (outcome_at outcomes d.task)) (λ d a. s.each d.task a) found.0.deps done)

-- Once a map's whole order is done, each task has an outcome.
pub all_settled : (m : MapValue) (items : List ℕ) (outcomes : List (Option Outcome)) (i : ℕ) → IsMap m → items ≡ m.order → length items ≤ i → length outcomes ≡ length m.tasks
    → HasOutcomes (take i items) outcomes → All IsSome outcomes
all_settled m items outcomes i limits is h count s k d within =
    let whole : take i items ≡ m.order = take_all i items h ∙ is in
    let there = s.each k (subst (λ (us : List ℕ). is_among k us ≡ true) (sym whole) (limits.reaches k (omega arith))) in
    ap is_some (get_or_default outcomes k d None within) ∙ there
