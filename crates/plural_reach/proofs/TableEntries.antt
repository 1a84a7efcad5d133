-- Filling a table of sets along a map's order.
use Rattle.std.proofs.Common.{ℕ, ◌≡◌, ◌≢◌, ◌+◌, ◌<◌, ◌≤◌, Bool, true, false, List, length, take, set, get_or, sym, ap, ◌∙◌, subst, ⊎_elim, arith, length-set}
use Rattle.std.specs.Prelude.{slice_index}
use Rattle.std.specs.List.{All}
use Rattle.std.specs.Option.{option_map_or}
use Rattle.std.proofs.lemmas.Bool.{cases_lt}
use Rattle.std.proofs.lemmas.List.{take_more, take_all, get_or-set_same, get_or-set_other}
use Rattle.std.proofs.lemmas.List.Elements.{All-weaker}
use Rattle.std.proofs.lemmas.Option.{slice_get_cases, get_or_from_slice_get}
use Rattle.plural_map.specs.declared.outcome.Dep.{Dep}
use Rattle.plural_map.specs.Value.{TaskValue, MapValue}
use Rattle.plural_map.specs.Limits.{IsTask, IsMap}
use Rattle.plural_map.specs.Order.{is_among, is_ready, order_of}
use Rattle.plural_map.proofs.OrderLemmas.{order_ready, order_within}
use Rattle.plural_reach.specs.declared.set.TaskSet.{TaskSet}
use Rattle.plural_reach.specs.Sets.{has}
use Rattle.plural_reach.specs.Rows.{row}
use Rattle.plural_reach.proofs.DepLemmas.{row_at}
use Rattle.plural_reach.proofs.Solutions.{Step, IsLocal, Solves, solves_push}

-- ---- rows of a table with one set written

row_past : (sets : List TaskSet) (t p : ℕ) → length sets ≤ t → row sets t p ≡ false
row_past sets t p h = ⊎_elim (λ c. absurd (omega (arith, c.1))) (λ c. ap (λ o. option_map_or (λ s. has s p) o false) c.1) ((slice_get_cases sets t).1)

row-set_same : (sets : List TaskSet) (t p : ℕ) (s : TaskSet) → t < length sets → row (set sets t s) t p ≡ has s p
row-set_same sets t p s h =
    let l : t < length (set sets t s) = omega (arith, length-set {A = TaskSet} sets t s) in
    row_at (set sets t s) t p s l ∙ ap (λ x. has x p) (get_or-set_same sets t s s h)

row-set_other : (sets : List TaskSet) (t u p : ℕ) (s : TaskSet) → u ≢ t → row (set sets t s) u p ≡ row sets u p
row-set_other sets t u p s h = ⊎_elim
    (λ (l : u < length sets).
    let k : u < length (set sets t s) = omega (arith, length-set {A = TaskSet} sets t s) in
    row_at (set sets t s) u p s k ∙ (ap (λ x. has x p) (get_or-set_other sets t u s s h) ∙ sym (row_at sets u p s l)))
    (λ (l : length sets ≤ u).
    let k : length (set sets t s) ≤ u = omega (arith, length-set {A = TaskSet} sets t s) in
    row_past (set sets t s) u p k ∙ sym (row_past sets u p l))
    (cases_lt u (length sets))

-- ---- a map's order

-- Each number of a map's order is that of a task.
pub item_within : (m : MapValue) → IsMap m → (items : List ℕ) → items ≡ m.order → (i : ℕ) → i < length items → slice_index items i < length m.tasks
item_within m is items e i l =
    let f : items ≡ order_of m.tasks = e ∙ is.ordered in
    let k : i < length (order_of m.tasks) = omega (arith, ap length f) in
    subst (λ (xs : List ℕ). slice_index xs i < length m.tasks) (sym f) (order_within m.tasks i k)

-- A task of a map depends on tasks below 256.
pub few_deps : (m : MapValue) → IsMap m → (t : ℕ) (task : TaskValue) → t < length m.tasks → task ≡ get_or m.tasks t task → All (λ d. d.task < 256) task.deps
few_deps m is t task l e =
    let each : IsTask m.words m.tasks task = subst (λ (x : TaskValue). IsTask m.words m.tasks x) (sym e) (is.each t task l) in
    let few = is.few_tasks in
    All-weaker (λ (d : Dep). d.task < length m.tasks) (λ (d : Dep). d.task < 256) (λ d h. omega arith) task.deps each.deps_within

-- A map's order reaches each task.
pub reaches_all : (m : MapValue) → IsMap m → (t : ℕ) → t < length m.tasks → is_among t (order_of m.tasks) ≡ true
reaches_all m is t l = subst (λ (xs : List ℕ). is_among t xs ≡ true) is.ordered (is.reaches t l)

-- ---- one entry more, and the last

-- Along a map's order, one entry more is made as its step says.
pub filled : (step : Step) → IsLocal step → (m : MapValue) → IsMap m → (items : List ℕ) → items ≡ m.order → (i : ℕ) → i < length items → (sets : List TaskSet) → length sets ≡ 256
    → Solves step m.tasks (take i items) (row sets) → (s : TaskSet) (task : TaskValue) → task ≡ get_or m.tasks (slice_index items i) task → ((p : ℕ) → has s p ≡ step (row sets) task p)
    → Solves step m.tasks (take (i + 1) items) (row (set sets (slice_index items i) s))
filled step local m is items e i l sets size old s task at made =
    let within : slice_index items i < length m.tasks = item_within m is items e i l in
    let few = is.few_tasks in
    let f : items ≡ order_of m.tasks = e ∙ is.ordered in
    let k : i < length (order_of m.tasks) = omega (arith, ap length f) in
    let ready = subst (λ (xs : List ℕ). is_ready m.tasks (take i xs) (slice_index xs i) ≡ true) (sym f) (order_ready m.tasks i k) in
    subst (λ (xs : List ℕ). Solves step m.tasks xs (row (set sets (slice_index items i) s))) (sym (take_more items i 0 l))
    (solves_push step m.tasks (take i items) (row sets) (row (set sets (slice_index items i) s)) (slice_index items i) local old ready
    (λ t p n. row-set_other sets (slice_index items i) t p s n)
    (λ x g p. row-set_same sets (slice_index items i) p s (omega arith) ∙ (made p ∙ ap (λ (y : TaskValue). step (row sets) y p) (at ∙ get_or_from_slice_get m.tasks (slice_index items i) x task g))))

-- After the whole order all entries are.
pub finished : (step : Step) (m : MapValue) → IsMap m → (items : List ℕ) → items ≡ m.order → (i : ℕ) → length items ≤ i → (f : ℕ → ℕ → Bool) → Solves step m.tasks (take i items) f → Solves step m.tasks (order_of m.tasks) f
finished step m is items e i l f h = subst (λ (xs : List ℕ). Solves step m.tasks xs f) (take_all i items l ∙ (e ∙ is.ordered)) h
