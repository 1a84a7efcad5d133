-- Tables that are filled along the order of the tasks: each entry is made from the entries of the tasks that the task
-- depends on, and stays as it is.
use Rattle.std.proofs.Common.{ℕ, zero, suc, ◌≡◌, ◌≢◌, ◌⊎◌, ◌+◌, ◌<◌, ◌≤◌, Bool, true, false, List, [], ◌∷◌, ◌++◌, length, take, Option, Some, sym, ap, ◌∙◌, subst, inl, inr, arith}
use Rattle.std.specs.Prelude.{◌==◌, slice_get, slice_index}
use Rattle.std.proofs.lemmas.Bool.{eqb-true}
use Rattle.std.proofs.lemmas.List.{take_more, take_all}
use Rattle.plural_map.specs.Value.{TaskValue}
use Rattle.plural_map.specs.Order.{is_among, has_all_done, is_ready, order_of}
use Rattle.plural_map.proofs.OrderLemmas.{ready_new, ready_task, order_ready, among_push, among_at}
use Rattle.plural_reach.proofs.DepLemmas.{or_cases, or_left, names, all_at, all_weaker}

-- How an entry is made, by the entries of other tasks.
abbrev pub Step : Type 0
Step = (ℕ → ℕ → Bool) → TaskValue → ℕ → Bool

-- An entry is made from those of the tasks that the task depends on alone.
pub record IsLocal (step : Step) : Type 0 where
  pub same : (f g : ℕ → ℕ → Bool) (task : TaskValue) (p : ℕ) → ((t : ℕ) → names task.deps t ≡ true → f t p ≡ g t p) → step f task p ≡ step g task p

-- The entries of those done are as they are made, and whatever these tasks depend on is done.
pub record Solves (step : Step) (tasks : List TaskValue) (done : List ℕ) (f : ℕ → ℕ → Bool) : Type 0 where
  pub closed : (t : ℕ) (task : TaskValue) → is_among t done ≡ true → slice_get tasks t ≡ Some task → has_all_done done task ≡ true
  pub equal : (t : ℕ) (task : TaskValue) → is_among t done ≡ true → slice_get tasks t ≡ Some task → (p : ℕ) → f t p ≡ step f task p

some_is : {X : Type 0} (x y : X) (o : Option X) → o ≡ Some x → o ≡ Some y → x ≡ y
some_is x y o p q = cc

-- One task more that is ready.
pub solves_push : (step : Step) (tasks : List TaskValue) (done : List ℕ) (f g : ℕ → ℕ → Bool) (u : ℕ) → IsLocal step → Solves step tasks done f → is_ready tasks done u ≡ true
    → ((t p : ℕ) → t ≢ u → g t p ≡ f t p) → ((task : TaskValue) → slice_get tasks u ≡ Some task → (p : ℕ) → g u p ≡ step f task p)
    → Solves step tasks (done ++ u ∷ []) g
solves_push step tasks done f g u local old ready others made = record {
  closed = λ t task m e. more_done t task (closed_before t task e (cases t m));
  equal = λ t task m e p. equal t task e p (cases t m);
}
  where
    cases : (t : ℕ) → is_among t (done ++ u ∷ []) ≡ true → (is_among t done ≡ true) ⊎ ((u == t) ≡ true)
    cases t m = or_cases (is_among t done) (u == t) (sym (among_push done u t) ∙ m)

    differs : (t : ℕ) → is_among t done ≡ true → t ≢ u
    differs t m e =
        let n : is_among u done ≡ false = ready_new tasks done u ready in
        let k : is_among u done ≡ true = subst (λ (x : ℕ). is_among x done ≡ true) e m in
        absurd cc

    more_done : (t : ℕ) (task : TaskValue) → has_all_done done task ≡ true → has_all_done (done ++ u ∷ []) task ≡ true
    more_done t task h = all_weaker (λ d. is_among d.task done) (λ d. is_among d.task (done ++ u ∷ [])) task.deps
        (λ d m a. among_push done u d.task ∙ or_left (is_among d.task done) (u == d.task) a) h

    done_of : (task : TaskValue) → slice_get tasks u ≡ Some task → has_all_done done task ≡ true
    done_of task e =
        let r = ready_task tasks done u ready in
        subst (λ (x : TaskValue). has_all_done done x ≡ true) (some_is r.0 task (slice_get tasks u) r.1 e) r.2

    closed_before : (t : ℕ) (task : TaskValue) → slice_get tasks t ≡ Some task → (is_among t done ≡ true) ⊎ ((u == t) ≡ true) → has_all_done done task ≡ true
    closed_before t task e (inl m) = old.closed t task m e
    closed_before t task e (inr m) = done_of task (ap (λ (x : ℕ). slice_get tasks x) (eqb-true u t m) ∙ e)

    local_done : (task : TaskValue) (p : ℕ) → has_all_done done task ≡ true → step f task p ≡ step g task p
    local_done task p h = local.same f g task p (λ t m. sym (others t p (differs t (all_at (λ x. is_among x done) task.deps t h m))))

    equal : (t : ℕ) (task : TaskValue) → slice_get tasks t ≡ Some task → (p : ℕ) → (is_among t done ≡ true) ⊎ ((u == t) ≡ true) → g t p ≡ step g task p
    equal t task e p (inl m) = others t p (differs t m) ∙ (old.equal t task m e p ∙ local_done task p (old.closed t task m e))
    equal t task e p (inr m) =
        let k : u ≡ t = eqb-true u t m in
        let e' : slice_get tasks u ≡ Some task = ap (λ (x : ℕ). slice_get tasks x) k ∙ e in
        subst (λ (x : ℕ). g x p ≡ step g task p) k (made task e' p ∙ local_done task p (done_of task e'))

-- What is kept by each step holds of each entry that is true.
pub solved_by : (step : Step) (tasks : List TaskValue) (f : ℕ → ℕ → Bool) (P : ℕ → ℕ → Type 0) → Solves step tasks (order_of tasks) f
    → ((u : ℕ) (task : TaskValue) (p : ℕ) → slice_get tasks u ≡ Some task → ((t : ℕ) → names task.deps t ≡ true → f t p ≡ true → P t p) → step f task p ≡ true → P u p)
    → (u p : ℕ) → is_among u (order_of tasks) ≡ true → f u p ≡ true → P u p
solved_by step tasks f P solved keeps u p m h =
    upto (length (order_of tasks)) (omega arith) u p (rw (take_all (length (order_of tasks)) (order_of tasks) (omega arith)) m) h
  where
    at : (i : ℕ) → i < length (order_of tasks) → ((t q : ℕ) → is_among t (take i (order_of tasks)) ≡ true → f t q ≡ true → P t q) → (q : ℕ) → f (slice_index (order_of tasks) i) q ≡ true → P (slice_index (order_of tasks) i) q
    at i l before q true_at =
        let r = ready_task tasks (take i (order_of tasks)) (slice_index (order_of tasks) i) (order_ready tasks i l) in
        keeps (slice_index (order_of tasks) i) r.0 q r.1
        (λ t n a. before t q (all_at (λ x. is_among x (take i (order_of tasks))) r.0.deps t r.2 n) a)
        (sym (solved.equal (slice_index (order_of tasks) i) r.0 (among_at (order_of tasks) i l) r.1 q) ∙ true_at)

    one_more : (n : ℕ) → n < length (order_of tasks) → take (suc n) (order_of tasks) ≡ take n (order_of tasks) ++ slice_index (order_of tasks) n ∷ []
    one_more n k = let s : n + 1 ≡ suc n = omega arith in subst (λ (x : ℕ). take x (order_of tasks) ≡ take n (order_of tasks) ++ slice_index (order_of tasks) n ∷ []) s (take_more (order_of tasks) n 0 k)

    by_place : (n : ℕ) → n < length (order_of tasks) → ((t q : ℕ) → is_among t (take n (order_of tasks)) ≡ true → f t q ≡ true → P t q) → (t q : ℕ) → f t q ≡ true
        → (is_among t (take n (order_of tasks)) ≡ true) ⊎ ((slice_index (order_of tasks) n == t) ≡ true) → P t q
    by_place n l before t q a (inl k) = before t q k a
    by_place n l before t q a (inr k) =
        let e : slice_index (order_of tasks) n ≡ t = eqb-true (slice_index (order_of tasks) n) t k in
        subst (λ (x : ℕ). P x q) e (at n l before q (ap (λ (x : ℕ). f x q) e ∙ a))

    upto : (n : ℕ) → n ≤ length (order_of tasks) → (t q : ℕ) → is_among t (take n (order_of tasks)) ≡ true → f t q ≡ true → P t q
    upto zero l t q m a = absurd cc
    upto (suc n) l t q m a = by_place n (omega arith) (upto n (omega arith)) t q a
        (or_cases _ _ (sym (among_push (take n (order_of tasks)) (slice_index (order_of tasks) n) t) ∙ (sym (ap (is_among t) (one_more n (omega arith))) ∙ m)))
