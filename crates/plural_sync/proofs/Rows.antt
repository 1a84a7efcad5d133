-- The rows of a synchroniser's lists, as they grow.
use Rattle.std.proofs.Common.{◌≡◌, ◌≢◌, ◌∙◌, ℕ, zero, suc, ◌+◌, ◌<◌, ◌≤◌, ◌||◌, Bool, false, cond, eqb, eq-eqb, ne_eqb, List, [], ◌∷◌, ◌++◌, length, take, set, get_or, refl, sym, ap, subst, arith, Vec, All}
use mathlib.Core.Logic.{dite}
use native.Mathlib.Decide.{ℕ_discrete}
use Rattle.std.proofs.Math.Bool.{or-false}
use Rattle.std.specs.List.{AllPairs, list_any, range_with_len}
use Rattle.std.specs.Prelude.{filter}
use Rattle.std.specs.declared.alloc.Global.{Global}
use Rattle.std.proofs.lemmas.List.{map-set, get_or-map, get_or-set_same, get_or-set_other, get_or_default, length-set, take_more, append-nil, get_or-take, length-take-le}
use Rattle.std.proofs.lemmas.List.Elements.{filter-append, All-head, All-tail}
use Rattle.std.proofs.lemmas.List.Folds.{list_any-append}
use Rattle.plural_base.proofs.Ranges.{range_push}
use Rattle.plural_map.specs.declared.outcome.Dep.{Dep}
use Rattle.plural_map.specs.Value.{TaskValue}
use Rattle.plural_reach.specs.Chains.{deps_of}
use Rattle.plural_order.specs.ProgramGraph.{depends_on, successors_of}
use Rattle.plural_sync.specs.Lists.{rows_of, row, HasSuccessors, AreSuccessors, if_on, HasGained}

-- What is pushed to a list is pushed to its row.
pub pushed : (lists : List (Vec ℕ Global)) (t u : ℕ) (v w : Vec ℕ Global) → t < length lists → v ≡ get_or lists t v → w.items ≡ v.items ++ u ∷ []
    → rows_of (set lists t w) ≡ set (rows_of lists) t (row (rows_of lists) t ++ u ∷ [])
pushed lists t u v w h is new =
    let f : Vec ℕ Global → List ℕ = λ x. x.items in
    let old : v.items ≡ row (rows_of lists) t = ap f is ∙ sym (get_or-map f lists t v [] h) in
    map-set f lists t w ∙ ap (set (rows_of lists) t) (new ∙ ap (λ (l : List ℕ). l ++ u ∷ []) old)

-- Nothing has gained from no dependency.
pub gained_none : (u : ℕ) (rows : List (List ℕ)) → HasGained [] u rows rows
gained_none u rows = record { all = refl; each = λ t h. sym (append-nil (row rows t)) }

-- A dependency is on task t, as a test of all of them.
abbrev on : (t : ℕ) → List Dep → Bool
on t deps = list_any (λ d. eqb d.task t) deps

none_on : (t : ℕ) (deps : List Dep) → ((k : ℕ) (e : Dep) → k < length deps → (get_or deps k e).task ≢ t) → on t deps ≡ false
none_on t [] h = refl
none_on t (x ∷ xs) h = ap (λ (b : Bool). b || on t xs) (ne_eqb x.task t (h 0 x (omega arith))) ∙ none_on t xs (λ k e l. h (suc k) e (omega arith))

-- The dependencies before place i are on other tasks than that at i.
others : (deps : List Dep) (i : ℕ) (d : Dep) → AllPairs (λ d e. d.task ≢ e.task) deps → i < length deps → d ≡ get_or deps i d → on d.task (take i deps) ≡ false
others deps i d apart h is = none_on d.task (take i deps) (λ k e l.
    let m = length-take-le i deps (omega (arith, h)) in
    let before : k < i = omega (arith, l, m) in
    let same : (get_or deps i e).task ≡ d.task = ap (λ (x : Dep). x.task) (get_or_default deps i e d h ∙ sym is) in
    λ q. apart k i e before h (sym (ap (λ (x : Dep). x.task) (get_or-take i deps k e before)) ∙ (q ∙ sym same)))

-- One dependency more is on its task, or as those before it.
on_more : (deps : List Dep) (i : ℕ) (d : Dep) (t : ℕ) → i < length deps → d ≡ get_or deps i d → on t (take (i + 1) deps) ≡ (on t (take i deps) || eqb d.task t)
on_more deps i d t h is =
    ap (on t) (take_more deps i d h ∙ ap (λ (x : Dep). take i deps ++ x ∷ []) (sym is))
    ∙ (list_any-append (λ (x : Dep). eqb x.task t) (take i deps) (d ∷ []) ∙ ap (λ (b : Bool). on t (take i deps) || b) (or-false (eqb d.task t)))

-- The row of the task of one dependency more is longer by one.
pub gained_more : (deps : List Dep) (i u : ℕ) (d : Dep) (old rows : List (List ℕ)) → AllPairs (λ d e. d.task ≢ e.task) deps → i < length deps → d ≡ get_or deps i d → d.task < length old
    → HasGained (take i deps) u old rows → HasGained (take (i + 1) deps) u old (set rows d.task (row rows d.task ++ u ∷ []))
gained_more deps i u d old rows apart h is low g = record {
  all = length-set rows d.task (row rows d.task ++ u ∷ []) ∙ g.all;
  each = λ t small. dite (ℕ_discrete t d.task) (λ e. subst (λ (x : ℕ). row (set rows d.task (row rows d.task ++ u ∷ [])) x ≡ row old x ++ if_on (take (i + 1) deps) u x) (sym e) here) (λ ne. there t small ne);
}
  where
    here : row (set rows d.task (row rows d.task ++ u ∷ [])) d.task ≡ row old d.task ++ if_on (take (i + 1) deps) u d.task
    here =
        let none : if_on (take i deps) u d.task ≡ [] = ap (λ (b : Bool). cond b (u ∷ []) []) (others deps i d apart h is) in
        let one : if_on (take (i + 1) deps) u d.task ≡ u ∷ [] = ap (λ (b : Bool). cond b (u ∷ []) []) (on_more deps i d d.task h is ∙ (ap (λ (b : Bool). b || eqb d.task d.task) (others deps i d apart h is) ∙ eq-eqb d.task d.task refl)) in
        get_or-set_same rows d.task (row rows d.task ++ u ∷ []) [] (omega (arith, g.all, low))
        ∙ (ap (λ (l : List ℕ). l ++ u ∷ []) (g.each d.task low ∙ (ap (λ (l : List ℕ). row old d.task ++ l) none ∙ append-nil (row old d.task)))
        ∙ ap (λ (l : List ℕ). row old d.task ++ l) (sym one))

    there : (t : ℕ) → t < length old → t ≢ d.task → row (set rows d.task (row rows d.task ++ u ∷ [])) t ≡ row old t ++ if_on (take (i + 1) deps) u t
    there t small ne =
        let same : on t (take (i + 1) deps) ≡ on t (take i deps) = on_more deps i d t h is ∙ (ap (λ (b : Bool). on t (take i deps) || b) (ne_eqb d.task t (λ q. ne (sym q))) ∙ or-false (on t (take i deps))) in
        get_or-set_other rows d.task t (row rows d.task ++ u ∷ []) [] ne ∙ (g.each t small ∙ ap (λ (b : Bool). row old t ++ cond b (u ∷ []) []) (sym same))

-- Empty rows have the successors among no tasks.
pub none_yet : (tasks : List TaskValue) (rows : List (List ℕ)) → length rows ≡ length tasks → ((t : ℕ) → t < length tasks → row rows t ≡ []) → HasSuccessors tasks 0 rows
none_yet tasks rows long empty = record { all = long; each = empty }

-- The rows of empty lists are empty.
pub empty_rows : (lists : List (Vec ℕ Global)) → All (λ l. l.items ≡ []) lists → (t : ℕ) → row (rows_of lists) t ≡ []
empty_rows [] all t = refl
empty_rows (x ∷ xs) all zero = All-head (λ (l : Vec ℕ Global). l.items ≡ []) x xs all
empty_rows (x ∷ xs) all (suc t) = empty_rows xs (All-tail (λ (l : Vec ℕ Global). l.items ≡ []) x xs all) t

-- Rows that have gained from the dependencies of task u have the successors among one task more.
pub one_task_more : (tasks : List TaskValue) (u : ℕ) (old new : List (List ℕ)) → HasSuccessors tasks u old → HasGained (deps_of tasks u) u old new → HasSuccessors tasks (u + 1) new
one_task_more tasks u old new has g = record {
  all = g.all ∙ has.all;
  each = λ t small.
      let p = λ (v : ℕ). depends_on tasks v t in
      g.each t (omega (arith, small, has.all))
      ∙ (ap (λ (l : List ℕ). l ++ if_on (deps_of tasks u) u t) (has.each t small)
      ∙ (sym (filter-append p (range_with_len 0 u) (u ∷ [])) ∙ ap (filter p) (sym (range_push u))));
}

-- Rows that have the successors among all tasks.
pub all_tasks : (tasks : List TaskValue) (n : ℕ) (rows : List (List ℕ)) → length tasks ≤ 256 → n ≡ length tasks → HasSuccessors tasks n rows → AreSuccessors tasks rows
unfolding successors_of
all_tasks tasks n rows few e has = record {
  few = few;
  all = has.all;
  each = λ t small. has.each t small ∙ ap (λ (m : ℕ). filter (λ u. depends_on tasks u t) (range_with_len 0 m)) e;
}
