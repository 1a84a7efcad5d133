-- A task's place in the order, and the test for coming before.
use Rattle.std.proofs.Common.{◌≡◌, ℕ, zero, suc, ◌+◌, ◌<◌, Bool, true, false, ◌||◌, eqb, cond, List, [], ◌∷◌, length, take, get_or, refl, sym, ap, subst, ◌∙◌, arith, eqb-true, inl, inr, ⊎_elim}
use Rattle.std.specs.Prelude.{◌==◌}
use Rattle.std.specs.List.{list_any}
use Rattle.std.proofs.lemmas.Bool.{eq-eqb, cases_Bool, true≢false, false_from_ne_true}
use Rattle.std.proofs.lemmas.Option.{slice_get_within}
use Rattle.plural_map.specs.declared.outcome.Dep.{Dep}
use Rattle.plural_map.specs.Value.{TaskValue}
use Rattle.plural_map.specs.Order.{is_among, order_of}
use Rattle.plural_map.proofs.OrderPlaces.{order_long}
use Rattle.plural_reach.specs.Chains.{deps_of, DependsOn, LeadsBack, Before, before_in, comes_before}
use Rattle.plural_reach.specs.Tables.{says_before}
use Rattle.plural_reach.specs.Laws.{place_in, rank_of, Reaches, BeforeTest, TableTest, BeforeRises, BeforeDecided, NeverItself}
use Rattle.plural_reach.proofs.DepLemmas.{or_cases, or_left, or_right, any_weaker}
use Rattle.plural_reach.proofs.ChainLemmas.{dependent}
use Rattle.plural_reach.proofs.Places.{step_back}

-- ---- places

place_take : (xs : List ℕ) (i t : ℕ) → is_among t (take i xs) ≡ true → place_in xs t < i
place_take xs zero t h = absurd cc
place_take [] (suc i) t h = absurd cc
place_take (x ∷ xs) (suc i) t h = by (eqb x t) (λ k. place_take xs i t k) h
  where
    by : (b : Bool) → (is_among t (take i xs) ≡ true → place_in xs t < i) → (b || is_among t (take i xs)) ≡ true → cond b 0 (suc (place_in xs t)) < suc i
    by true later k = omega arith
    by false later k = omega (arith, later k)

-- A number of a list is at its place.
place_there : (xs : List ℕ) (t : ℕ) → is_among t xs ≡ true → (place_in xs t < length xs) × (get_or xs (place_in xs t) 0 ≡ t)
place_there [] t h = absurd cc
place_there (x ∷ xs) t h = by (eqb x t) refl (λ k. place_there xs t k) h
  where
    by : (b : Bool) → eqb x t ≡ b → (is_among t xs ≡ true → (place_in xs t < length xs) × (get_or xs (place_in xs t) 0 ≡ t)) → (b || is_among t xs) ≡ true
        → (cond b 0 (suc (place_in xs t)) < length (x ∷ xs)) × (get_or (x ∷ xs) (cond b 0 (suc (place_in xs t))) 0 ≡ t)
    by true e later k = (omega arith, eqb-true x t e)
    by false e later k = let l = later k in (omega (arith, l.0), l.1)

-- ---- dependencies

-- A number that depends on another is that of a task.
pub task_within : (tasks : List TaskValue) (u t : ℕ) → DependsOn tasks u t → u < length tasks
task_within tasks u t h = let k = dependent tasks u t h in slice_get_within tasks u k.0 k.1

-- A task stands after those that it depends on.
pub dep_rises : (tasks : List TaskValue) → Reaches tasks → (u t : ℕ) → DependsOn tasks u t → rank_of tasks t < rank_of tasks u
unfolding rank_of
dep_rises tasks reaches u t h =
    let p = place_there (order_of tasks) u (reaches u (task_within tasks u t h)) in
    place_take (order_of tasks) (place_in (order_of tasks) u) t (step_back tasks (place_in (order_of tasks) u) t p.0 (subst (λ (x : ℕ). DependsOn tasks x t) (sym p.1) h))

chain_rises : (tasks : List TaskValue) → Reaches tasks → (between : List ℕ) (u t : ℕ) → LeadsBack tasks u between t → rank_of tasks t + length between < rank_of tasks u
chain_rises tasks reaches [] u t h = omega (arith, dep_rises tasks reaches u t h)
chain_rises tasks reaches (w ∷ between) u t h = omega (arith, dep_rises tasks reaches u w h.0, chain_rises tasks reaches between w t h.1)

-- A task comes before later ones of the order alone.
pub before_rises : BeforeRises
before_rises tasks reaches t u h = omega (arith, chain_rises tasks reaches h.0 u t h.1)

-- ---- the test

any_names : (p : Dep → Bool) (deps : List Dep) → list_any p deps ≡ true → (d : Dep) × (list_any (λ e. e.task == d.task) deps ≡ true) × (p d ≡ true)
any_names p [] h = absurd cc
any_names p (d ∷ ds) h = ⊎_elim
    (λ (e : p d ≡ true). (d, or_left (d.task == d.task) (list_any (λ e. e.task == d.task) ds) (eq-eqb d.task d.task refl), e))
    (λ (e : list_any p ds ≡ true). let r = any_names p ds e in (r.0, or_right (d.task == r.0.task) (list_any (λ e. e.task == r.0.task) ds) r.1, r.2))
    (or_cases (p d) (list_any p ds) h)

test_sound : (n : ℕ) (tasks : List TaskValue) (t u : ℕ) → before_in n tasks t u ≡ true → Before tasks t u
unfolding before_in
test_sound zero tasks t u h = absurd cc
test_sound (suc n) tasks t u h =
    let d = any_names (λ d. d.task == t || before_in n tasks t d.task) (deps_of tasks u) h in
    ⊎_elim
    (λ (e : (d.0.task == t) ≡ true). ([], subst (λ (x : ℕ). DependsOn tasks u x) (eqb-true d.0.task t e) d.1))
    (λ (e : before_in n tasks t d.0.task ≡ true). let b = test_sound n tasks t d.0.task e in (d.0.task ∷ b.0, (d.1, b.1)))
    (or_cases (d.0.task == t) (before_in n tasks t d.0.task) d.2)

test_complete : (n : ℕ) (tasks : List TaskValue) (between : List ℕ) (t u : ℕ) → length between < n → LeadsBack tasks u between t → before_in n tasks t u ≡ true
unfolding before_in
test_complete zero tasks between t u l h = absurd (omega arith)
test_complete (suc n) tasks [] t u l h =
    any_weaker (λ d. d.task == t) (λ d. d.task == t || before_in n tasks t d.task) (deps_of tasks u) (λ d m e. or_left (d.task == t) (before_in n tasks t d.task) e) h
test_complete (suc n) tasks (w ∷ between) t u l h =
    let later = test_complete n tasks between t w (omega arith) h.1 in
    any_weaker (λ d. d.task == w) (λ d. d.task == t || before_in n tasks t d.task) (deps_of tasks u)
    (λ d m e. or_right (d.task == t) (before_in n tasks t d.task) (ap (λ (x : ℕ). before_in n tasks t x) (eqb-true d.task w e) ∙ later)) h.0

rank_within : (tasks : List TaskValue) → Reaches tasks → (u : ℕ) → u < length tasks → rank_of tasks u < length tasks
unfolding rank_of
rank_within tasks reaches u l = let p = place_there (order_of tasks) u (reaches u l) in omega (arith, p.0, order_long tasks)

leads_within : (tasks : List TaskValue) (between : List ℕ) (u t : ℕ) → LeadsBack tasks u between t → u < length tasks
leads_within tasks [] u t h = task_within tasks u t h
leads_within tasks (w ∷ between) u t h = task_within tasks u w h.0

-- The test says exactly which tasks come before which.
pub before_test : BeforeTest
unfolding comes_before
before_test tasks reaches t u = (
  test_sound (length tasks) tasks t u,
  (λ b. test_complete (length tasks) tasks b.0 t u
      (omega (arith, chain_rises tasks reaches b.0 u t b.1, rank_within tasks reaches u (leads_within tasks b.0 u t b.1))) b.1),
)

same_truth : (a b : Bool) → (a ≡ true → b ≡ true) → (b ≡ true → a ≡ true) → a ≡ b
same_truth true true f g = refl
same_truth true false f g = sym (f refl)
same_truth false true f g = g refl
same_truth false false f g = refl

-- A table of the tasks says what the test says.
pub table_test : TableTest
table_test tasks r reaches table t u l =
    let b = before_test tasks reaches t u in
    let e = table.exact t u l in
    same_truth (says_before r t u) (comes_before tasks t u) (λ h. b.1 (e.0 h)) (λ h. e.1 (b.0 h))

-- Whether a task comes before another is decided.
pub before_decided : BeforeDecided
before_decided tasks reaches t u = ⊎_elim
    (λ (h : comes_before tasks t u ≡ true). inl ((before_test tasks reaches t u).0 h))
    (λ (h : comes_before tasks t u ≡ false). inr (λ (b : Before tasks t u). true≢false (sym ((before_test tasks reaches t u).1 b) ∙ h)))
    (cases_Bool (comes_before tasks t u))

-- No task comes before itself.
pub never_itself : NeverItself
never_itself tasks reaches t h = absurd (omega (arith, before_rises tasks reaches t t h))
