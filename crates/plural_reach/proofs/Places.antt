-- Places in the order: no task comes before itself or an earlier one of it.
use Rattle.std.proofs.Common.{◌≡◌, ℕ, ◌<◌, ◌≤◌, true, false, List, [], ◌∷◌, ◌++◌, length, take, sym, ap, subst, ◌∙◌, arith}
use Rattle.std.specs.Prelude.{slice_index, ◌==◌}
use Rattle.std.specs.List.{list_any}
use Rattle.plural_map.specs.Value.{TaskValue}
use Rattle.plural_map.specs.Order.{is_among, order_of}
use Rattle.plural_map.proofs.OrderLemmas.{order_ready, ready_task, order_new}
use Rattle.plural_map.proofs.OrderPlaces.{found_in, among_more}
use Rattle.plural_reach.specs.Chains.{DependsOn, LeadsBack, Before}
use Rattle.plural_reach.specs.Laws.{BeforeThrough}
use Rattle.plural_reach.proofs.DepLemmas.{all_at}
use Rattle.plural_reach.proofs.ChainLemmas.{deps_at}

-- The tasks that one depends on stand before it.
pub step_back : (tasks : List TaskValue) (i t : ℕ) → i < length (order_of tasks) → DependsOn tasks (slice_index (order_of tasks) i) t → is_among t (take i (order_of tasks)) ≡ true
step_back tasks i t l h =
    let r = ready_task tasks (take i (order_of tasks)) (slice_index (order_of tasks) i) (order_ready tasks i l) in
    let deps = deps_at tasks (slice_index (order_of tasks) i) r.0 r.1 in
    all_at (λ u. is_among u (take i (order_of tasks))) r.0.deps t r.2 (ap (list_any (λ d. d.task == t)) (sym deps) ∙ h)

-- What comes before a task stands before it.
before_back : (tasks : List TaskValue) (between : List ℕ) (i t : ℕ) → i < length (order_of tasks) → LeadsBack tasks (slice_index (order_of tasks) i) between t → is_among t (take i (order_of tasks)) ≡ true
before_back tasks [] i t l h = step_back tasks i t l h
before_back tasks (w ∷ between) i t l h =
    let f = found_in (order_of tasks) i w (step_back tasks i w l h.0) in
    let b = f.below in
    let later = subst (λ u. LeadsBack tasks u between t) (sym f.there) h.1 in
    among_more (order_of tasks) f.at i t (omega arith) (before_back tasks between f.at t f.within later)

-- No task comes before one that stands no later in the order.
pub not_before : (tasks : List TaskValue) (i j : ℕ) → i ≤ j → j < length (order_of tasks) → Before tasks (slice_index (order_of tasks) j) (slice_index (order_of tasks) i) → ⊥
not_before tasks i j le l h =
    let a = among_more (order_of tasks) i j (slice_index (order_of tasks) j) le (before_back tasks h.0 i (slice_index (order_of tasks) j) (omega arith) h.1) in
    let f : true ≡ false = sym a ∙ order_new tasks j l in
    cc

leads_through : (tasks : List TaskValue) (later earlier : List ℕ) (t u v : ℕ) → LeadsBack tasks v later u → LeadsBack tasks u earlier t → LeadsBack tasks v (later ++ u ∷ earlier) t
leads_through tasks [] earlier t u v h g = (h, g)
leads_through tasks (w ∷ later) earlier t u v h g = (h.0, leads_through tasks later earlier t u w h.1 g)

-- Coming before is transitive.
pub before_through : BeforeThrough
before_through tasks t u v h g = (g.0 ++ u ∷ h.0, leads_through tasks g.0 h.0 t u v g.1 h.1)
