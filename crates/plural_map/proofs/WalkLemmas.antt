-- The walk through the tasks that an order doesn't reach.
use Rattle.std.proofs.Common.{◌≡◌, ℕ, zero, suc, ◌<◌, ◌≤◌, Bool, true, false, not, ◌&&◌, List, length, get_or, refl, arith, ⊎_elim}
use Rattle.std.specs.Prelude.{◌==◌}
use Rattle.std.proofs.lemmas.Bool.{cases_lt, and_parts, not-false, both_ways, eq-eqb}
use Rattle.std.proofs.lemmas.List.Folds.{list_any_at}
use Rattle.std.proofs.lemmas.List.Sums.{list_all-from_AllPass}
use Rattle.std.proofs.lemmas.Option.{slice_get-get_or}
use Rattle.plural_map.specs.declared.outcome.Dep.{Dep}
use Rattle.plural_map.specs.Value.{TaskValue, task_of, no_task}
use Rattle.plural_map.specs.Order.{is_among, is_ready, order_of}
use Rattle.plural_map.specs.Cycle.{is_left, depends_on, first_left, next_left, walk, AreWithin}
use Rattle.plural_map.proofs.OrderPlaces.{hits_few, hits_all}
use Rattle.plural_map.proofs.OrderSteps.{none_ready}
use Rattle.plural_map.proofs.LeastNumbers.{least_passes, least_fails, none_passes}

-- What holds of a task of the walk: it is one of the list, and the order doesn't reach it.
pub record IsLeft (tasks : List TaskValue) (t : ℕ) : Type 0 where
  pub below : t < length tasks
  pub left : is_left tasks t ≡ true

first_is : (tasks : List TaskValue) → length (order_of tasks) < length tasks → IsLeft tasks (first_left tasks)
first_is tasks h = ⊎_elim (λ l. record { below = l; left = least_passes (is_left tasks) (length tasks) l }) (λ m. absurd (none m)) (cases_lt (first_left tasks) (length tasks))
  where
    none : length tasks ≤ first_left tasks → ⊥
    none m =
        let all = hits_all (length tasks) (order_of tasks) (λ t l. not-false (is_among t (order_of tasks)) (least_fails (is_left tasks) (length tasks) t m l)) in
        omega (arith, all, hits_few (length tasks) (order_of tasks))

-- A task that isn't reached depends on another one, or the order would go on with it.
next_below : (tasks : List TaskValue) (t : ℕ) → length (order_of tasks) < length tasks → AreWithin tasks → IsLeft tasks t → next_left tasks t < length tasks
next_below tasks t h within i = ⊎_elim (λ l. l) (λ m. absurd (both_ways _ (old m) (new m))) (cases_lt (next_left tasks t) (length tasks))
  where
    order : List ℕ
    order = order_of tasks

    deps : List Dep
    deps = (task_of tasks t).deps

    old : length tasks ≤ next_left tasks t → is_ready tasks order t ≡ false
    old m = none_passes (is_ready tasks order) (length tasks) t (none_ready tasks h) i.below

    done : length tasks ≤ next_left tasks t → (k : ℕ) (d : Dep) → k < length deps → is_among (get_or deps k d).task order ≡ true
    done m k d l =
        let u = (get_or deps k d).task in
        let there : depends_on (task_of tasks t) u ≡ true = list_any_at (λ (e : Dep). e.task == u) deps k d l (eq-eqb u u refl) in
        let fails = least_fails (λ u. is_left tasks u && depends_on (task_of tasks t) u) (length tasks) u m (within t no_task i.below k d l) in
        by (is_among u order) (rw there at fails)
      where
        by : (b : Bool) → (not b && true) ≡ false → b ≡ true
        by true e = refl
        by false e = absurd cc

    new : length tasks ≤ next_left tasks t → is_ready tasks order t ≡ true
    new m = rw (i.left, slice_get-get_or tasks t no_task i.below) (list_all-from_AllPass (λ (d : Dep). is_among d.task order) deps (done m))

next_is : (tasks : List TaskValue) (t : ℕ) → length (order_of tasks) < length tasks → AreWithin tasks → IsLeft tasks t → IsLeft tasks (next_left tasks t)
next_is tasks t h within i =
    let l = next_below tasks t h within i in
    record { below = l; left = (and_parts _ _ (least_passes (λ u. is_left tasks u && depends_on (task_of tasks t) u) (length tasks) l)).0 }

-- Each task of the walk is one that the order doesn't reach.
pub walk_is : (tasks : List TaskValue) (k : ℕ) → length (order_of tasks) < length tasks → AreWithin tasks → IsLeft tasks (walk tasks k)
unfolding walk
walk_is tasks zero h within = first_is tasks h
walk_is tasks (suc k) h within = next_is tasks (walk tasks k) h within (walk_is tasks k h within)
