-- The dependencies of a program's tasks as sums of bits, and the decisions by them.
use Rattle.std.proofs.Common.{◌≡◌, ◌≢◌, ℕ, suc, ◌+◌, ◌<◌, ◌≤◌, Bool, true, false, not, ◌||◌, ◌&&◌, eqb, eq-eqb, eqb-true, ne_eqb, cond, List, [], ◌∷◌, length, get_or, Option, Some, refl, sym, ap, subst, ◌∙◌, arith, ⊎_elim}
use Rattle.std.specs.Prelude.{if◌then◌else◌, unwrap_or}
use Rattle.std.specs.List.{All, AllPairs, list_any, list_all}
use Rattle.std.specs.Option.{option_map_or}
use Rattle.std.specs.Int.{bit_at}
use Rattle.std.specs.Cmp.{both_ways as same_truth}
use Rattle.std.proofs.lemmas.Bool.{both_ways, cases_lt, or_cases, or_left, or_right, or_parts}
use Rattle.std.proofs.lemmas.List.Elements.{All-head, All-tail}
use Rattle.plural_map.specs.declared.outcome.Dep.{Dep}
use Rattle.plural_map.specs.declared.outcome.When.{When}
use Rattle.plural_map.specs.declared.outcome.When.TheVariants as when
use Rattle.plural_map.specs.declared.outcome.Outcome.{Outcome}
use Rattle.plural_map.specs.declared.outcome.Outcome.TheVariants as outcome
use Rattle.plural_map.specs.declared.outcome.Decision.TheVariants as decision
use Rattle.plural_map.specs.Value.{TaskValue, no_task}
use Rattle.plural_map.specs.Limits.{IsMap}
use Rattle.plural_map.specs.Decisions.{outcome_at, is_enough, is_failed, is_satisfied, has_failed}
use Rattle.plural_reach.proofs.DepLemmas.{names}
use Rattle.plural_reach.proofs.Ranks.{task_within}
use Rattle.plural_serial.specs.Program.{ProgramValue, task_at}
use Rattle.plural_serial.specs.Serial.{serial_of}
use Rattle.plural_serial.specs.Stretches.{decision_of}
use Rattle.plural_serial.proofs.Stretches.{decided_at}
use Rattle.plural_order.specs.Sums.{sum_below, sign, masked, times}
use Rattle.plural_order.specs.TaskGraph.{decide_by, decision_by}
use Rattle.plural_order.specs.ProgramGraph.{bits_of_dep, depends_on, when_on, successors_of, outcome_in, edge_bits_in, graph_of}
use Rattle.plural_order.proofs.Sums.{nonzero, one_of, nonzero_some, some_nonzero, sign_zero, masked_one, masked_some, below_some, below_has, below_same, below_add, below_none, below_one, times_range, times_past}

-- ---- successors

-- How often a task stands among the successors of another: once if it depends on it, else not at all.
pub times_successor : (tasks : List TaskValue) (t u : ℕ) → u < length tasks → times u (successors_of tasks t) ≡ one_of (depends_on tasks u t)
unfolding successors_of
times_successor tasks t u l = times_range (λ u. depends_on tasks u t) (length tasks) u l

times_other : (tasks : List TaskValue) (t u : ℕ) → length tasks ≤ u → times u (successors_of tasks t) ≡ 0
unfolding successors_of
times_other tasks t u l = times_past (λ u. depends_on tasks u t) (length tasks) u l

one_of_most : (b : Bool) → one_of b ≤ 1
one_of_most true = omega arith
one_of_most false = omega arith

one_of_yes : (b : Bool) → 1 ≤ one_of b → b ≡ true
one_of_yes true h = refl
one_of_yes false h = absurd (omega arith)

-- A task stands at most once among the successors of another.
pub successor_once : (tasks : List TaskValue) (t u : ℕ) → times u (successors_of tasks t) ≤ 1
successor_once tasks t u = ⊎_elim
    (λ (l : u < length tasks). omega (arith, times_successor tasks t u l, one_of_most (depends_on tasks u t)))
    (λ (l : length tasks ≤ u). omega (arith, times_other tasks t u l))
    (cases_lt u (length tasks))

-- A successor is a task and depends on the other.
pub successor_depends : (tasks : List TaskValue) (t u : ℕ) → 1 ≤ times u (successors_of tasks t) → (u < length tasks) × (depends_on tasks u t ≡ true)
successor_depends tasks t u h = ⊎_elim
    (λ (l : u < length tasks). (l, one_of_yes (depends_on tasks u t) (omega (arith, times_successor tasks t u l))))
    (λ (l : length tasks ≤ u). absurd (omega (arith, times_other tasks t u l)))
    (cases_lt u (length tasks))

-- What depends on a task is a successor of it, once.
pub depends_successor : (tasks : List TaskValue) (t u : ℕ) → depends_on tasks u t ≡ true → times u (successors_of tasks t) ≡ 1
depends_successor tasks t u h = times_successor tasks t u (task_within tasks u t h) ∙ ap one_of h

-- ---- dependencies on different tasks

-- The dependencies are on different tasks below n.
abbrev AreApart : ℕ → List Dep → Type 0
AreApart n [] = Unit {0}
AreApart n (d ∷ ds) = (names ds d.task ≡ false) × (d.task < n) × AreApart n ds

unnamed : (t : ℕ) (ds : List Dep) → ((k : ℕ) (e : Dep) → k < length ds → t ≢ (get_or ds k e).task) → names ds t ≡ false
unnamed t [] h = refl
unnamed t (d ∷ ds) h =
    let here : eqb d.task t ≡ false = ne_eqb d.task t (λ (e : d.task ≡ t). h 0 d (omega arith) (sym e)) in
    ap (λ (b : Bool). b || names ds t) here ∙ unnamed t ds (λ k e l. h (suc k) e (omega arith))

apart_from : (n : ℕ) (ds : List Dep) → All (λ d. d.task < n) ds → AllPairs (λ d e. d.task ≢ e.task) ds → AreApart n ds
apart_from n [] a p = tt
apart_from n (d ∷ ds) a p = (
  unnamed d.task ds (λ k e l. p 0 (suc k) e (omega arith) (omega arith)),
  All-head (λ (d : Dep). d.task < n) d ds a,
  apart_from n ds (All-tail (λ (d : Dep). d.task < n) d ds a) (λ i j e l m. p (suc i) (suc j) e (omega arith) (omega arith)),
)

-- A number that is named is that of one of the dependencies, the only one.
record IsNamed (n : ℕ) (ds : List Dep) (t : ℕ) : Type 0 where
  dep : Dep
  on : dep.task ≡ t
  within : dep.task < n
  when : when_on t ds ≡ Some dep.when
  passes : (f : Dep → Bool) → f dep ≡ true → list_any f ds ≡ true

named : (n : ℕ) (ds : List Dep) (t : ℕ) → AreApart n ds → names ds t ≡ true → IsNamed n ds t
named n [] t a h = absurd cc
named n (d ∷ ds) t a h = by (eqb d.task t) refl (λ k. named n ds t a.2 k) h
  where
    by : (b : Bool) → eqb d.task t ≡ b → (names ds t ≡ true → IsNamed n ds t) → (b || names ds t) ≡ true → IsNamed n (d ∷ ds) t
    by true e later k = record {
      dep = d;
      on = eqb-true d.task t e;
      within = a.1;
      when = ap (λ (c : Bool). cond c (Some d.when) (when_on t ds)) e;
      passes = λ f g. or_left (f d) (list_any f ds) g;
    }
    by false e later k = let r = later k in record {
      dep = r.dep;
      on = r.on;
      within = r.within;
      when = ap (λ (c : Bool). cond c (Some d.when) (when_on t ds)) e ∙ r.when;
      passes = λ f g. or_right (f d) (list_any f ds) (r.passes f g);
    }

-- A number that is named is below n.
pub named_within : (n : ℕ) (ds : List Dep) (t : ℕ) → AreApart n ds → names ds t ≡ true → t < n
named_within n ds t a h = let r = named n ds t a h in subst (λ (x : ℕ). x < n) r.on r.within

-- One of the dependencies passes a test.
record IsPassed (n : ℕ) (f : Dep → Bool) (ds : List Dep) : Type 0 where
  dep : Dep
  within : dep.task < n
  named : names ds dep.task ≡ true
  when : when_on dep.task ds ≡ Some dep.when
  pass : f dep ≡ true

passed : (n : ℕ) (f : Dep → Bool) (ds : List Dep) → AreApart n ds → list_any f ds ≡ true → IsPassed n f ds
passed n f [] a h = absurd cc
passed n f (d ∷ ds) a h = ⊎_elim
    (λ (e : f d ≡ true). record {
      dep = d;
      within = a.1;
      named = or_left (eqb d.task d.task) (names ds d.task) (eq-eqb d.task d.task refl);
      when = ap (λ (c : Bool). cond c (Some d.when) (when_on d.task ds)) (eq-eqb d.task d.task refl);
      pass = e;
    })
    (λ (e : list_any f ds ≡ true).
    let r = passed n f ds a.2 e in
    let other : d.task ≢ r.dep.task = λ (q : d.task ≡ r.dep.task). both_ways (names ds r.dep.task) (ap (names ds) (sym q) ∙ a.0) r.named in
    record {
      dep = r.dep;
      within = r.within;
      named = or_right (eqb d.task r.dep.task) (names ds r.dep.task) r.named;
      when = ap (λ (c : Bool). cond c (Some d.when) (when_on r.dep.task ds)) (ne_eqb d.task r.dep.task other) ∙ r.when;
      pass = r.pass;
    })
    (or_cases (f d) (list_any f ds) h)

one_of_or : (a b : Bool) → (a ≡ true → b ≡ false) → one_of (a || b) ≡ one_of a + one_of b
one_of_or true true h = absurd (let e : true ≡ false = h refl in cc)
one_of_or true false h = omega arith
one_of_or false true h = omega arith
one_of_or false false h = omega arith

-- Their number is that of the tasks that they name.
pub deps_named : (n : ℕ) (ds : List Dep) → AreApart n ds → length ds ≡ sum_below (λ t. one_of (names ds t)) n
deps_named n [] a = sym (below_none (λ t. one_of (names [] t)) n (λ i l. refl))
deps_named n (d ∷ ds) a =
    let both = below_same (λ t. one_of (names (d ∷ ds) t)) (λ t. one_of (eqb d.task t) + one_of (names ds t)) n
    (λ t l. one_of_or (eqb d.task t) (names ds t) (λ e. ap (names ds) (sym (eqb-true d.task t e)) ∙ a.0)) in
    omega (arith, both, below_add (λ t. one_of (eqb d.task t)) (λ t. one_of (names ds t)) n, below_one d.task n a.1, deps_named n ds a.2)

-- ---- the bits of dependencies

-- An outcome is there that isn't failed, and it doesn't satisfy the dependency.
abbrev is_unmet : When → Option Outcome → Bool
is_unmet w o = not (is_failed o) && not (is_satisfied w o)

failed_bit : (w : When) (o : Outcome) → nonzero (bit_at (bits_of_dep w o) 0) ≡ is_failed (Some o)
failed_bit when.Any outcome.Ended0 = refl
failed_bit when.Any outcome.Ended1 = refl
failed_bit when.Any outcome.Skipped = refl
failed_bit when.Any outcome.Failed = refl
failed_bit when.Code0 outcome.Ended0 = refl
failed_bit when.Code0 outcome.Ended1 = refl
failed_bit when.Code0 outcome.Skipped = refl
failed_bit when.Code0 outcome.Failed = refl
failed_bit when.Code1 outcome.Ended0 = refl
failed_bit when.Code1 outcome.Ended1 = refl
failed_bit when.Code1 outcome.Skipped = refl
failed_bit when.Code1 outcome.Failed = refl

unmet_bit : (w : When) (o : Outcome) → nonzero (bit_at (bits_of_dep w o) 1) ≡ is_unmet w (Some o)
unmet_bit when.Any outcome.Ended0 = refl
unmet_bit when.Any outcome.Ended1 = refl
unmet_bit when.Any outcome.Skipped = refl
unmet_bit when.Any outcome.Failed = refl
unmet_bit when.Code0 outcome.Ended0 = refl
unmet_bit when.Code0 outcome.Ended1 = refl
unmet_bit when.Code0 outcome.Skipped = refl
unmet_bit when.Code0 outcome.Failed = refl
unmet_bit when.Code1 outcome.Ended0 = refl
unmet_bit when.Code1 outcome.Ended1 = refl
unmet_bit when.Code1 outcome.Skipped = refl
unmet_bit when.Code1 outcome.Failed = refl

met_bit : (w : When) (o : Outcome) → nonzero (bit_at (bits_of_dep w o) 2) ≡ is_satisfied w (Some o)
met_bit when.Any outcome.Ended0 = refl
met_bit when.Any outcome.Ended1 = refl
met_bit when.Any outcome.Skipped = refl
met_bit when.Any outcome.Failed = refl
met_bit when.Code0 outcome.Ended0 = refl
met_bit when.Code0 outcome.Ended1 = refl
met_bit when.Code0 outcome.Skipped = refl
met_bit when.Code0 outcome.Failed = refl
met_bit when.Code1 outcome.Ended0 = refl
met_bit when.Code1 outcome.Ended1 = refl
met_bit when.Code1 outcome.Skipped = refl
met_bit when.Code1 outcome.Failed = refl

module _ (p : ProgramValue) (m : List ℕ) (limits : IsMap p.map) where
  abbrev outcome_of : ℕ → Option Outcome
  outcome_of t = outcome_at (serial_of p m).outcomes t

  -- Each task has an outcome in the serial run.
  pub outcome_there : (t : ℕ) → t < length p.map.tasks → outcome_of t ≡ Some (outcome_in p m t)
  outcome_there t l = let d = decided_at p m t limits l in d.outcome ∙ sym (ap (λ (o : Option Outcome). Some (unwrap_or o outcome.Failed)) d.outcome)

  -- The dependencies of a task are on different tasks.
  pub deps_apart : (u : ℕ) → u < length p.map.tasks → AreApart (length p.map.tasks) (task_at p u).deps
  deps_apart u l = let task = limits.each u no_task l in apart_from (length p.map.tasks) (task_at p u).deps task.deps_within task.deps_differ

  -- some dependency passes by the outcome that it is on exactly if some dependency has the bit
  edges : (u i : ℕ) (f : When → Option Outcome → Bool) → u < length p.map.tasks → ((w : When) (o : Outcome) → nonzero (bit_at (bits_of_dep w o) i) ≡ f w (Some o))
      → list_any (λ d. f d.when (outcome_of d.task)) (task_at p u).deps ≡ nonzero (sum_below (λ t. masked (times u (successors_of p.map.tasks t)) (bit_at (edge_bits_in p m t u) i)) (length p.map.tasks))
  edges u i f l bits = same_truth
      (list_any (λ d. f d.when (outcome_of d.task)) (task_at p u).deps)
      (nonzero (sum_below (λ t. masked (times u (successors_of p.map.tasks t)) (bit_at (edge_bits_in p m t u) i)) (length p.map.tasks)))
      there back
    where
      bits_at : (t : ℕ) (w : When) → when_on t (task_at p u).deps ≡ Some w → edge_bits_in p m t u ≡ bits_of_dep w (outcome_in p m t)
      bits_at t w e = ap (λ (o : Option When). option_map_or (λ w. bits_of_dep w (outcome_in p m t)) o 0) e

      there : list_any (λ d. f d.when (outcome_of d.task)) (task_at p u).deps ≡ true → nonzero (sum_below (λ t. masked (times u (successors_of p.map.tasks t)) (bit_at (edge_bits_in p m t u) i)) (length p.map.tasks)) ≡ true
      there h =
          let r = passed (length p.map.tasks) (λ d. f d.when (outcome_of d.task)) (task_at p u).deps (deps_apart u l) h in
          let t = r.dep.task in
          let o = outcome_in p m t in
          let bit : nonzero (bit_at (bits_of_dep r.dep.when o) i) ≡ true = bits r.dep.when o ∙ (ap (f r.dep.when) (sym (outcome_there t r.within)) ∙ r.pass) in
          let edge : nonzero (bit_at (edge_bits_in p m t u) i) ≡ true = ap (λ (x : ℕ). nonzero (bit_at x i)) (bits_at t r.dep.when r.when) ∙ bit in
          let one : times u (successors_of p.map.tasks t) ≡ 1 = depends_successor p.map.tasks t u r.named in
          let here : nonzero (masked (times u (successors_of p.map.tasks t)) (bit_at (edge_bits_in p m t u) i)) ≡ true = ap nonzero (masked_one (times u (successors_of p.map.tasks t)) (bit_at (edge_bits_in p m t u) i) one) ∙ edge in
          nonzero_some _ (below_has (λ t. masked (times u (successors_of p.map.tasks t)) (bit_at (edge_bits_in p m t u) i)) (length p.map.tasks) t r.within (some_nonzero _ here))

      back : nonzero (sum_below (λ t. masked (times u (successors_of p.map.tasks t)) (bit_at (edge_bits_in p m t u) i)) (length p.map.tasks)) ≡ true → list_any (λ d. f d.when (outcome_of d.task)) (task_at p u).deps ≡ true
      back h =
          let r = below_some (λ t. masked (times u (successors_of p.map.tasks t)) (bit_at (edge_bits_in p m t u) i)) (length p.map.tasks) h in
          let t = r.0 in
          let o = outcome_in p m t in
          let k = masked_some (times u (successors_of p.map.tasks t)) (bit_at (edge_bits_in p m t u) i) r.2 in
          let s = successor_depends p.map.tasks t u k.0 in
          let q = named (length p.map.tasks) (task_at p u).deps t (deps_apart u l) s.1 in
          let bit : f q.dep.when (Some o) ≡ true = sym (bits q.dep.when o) ∙ (ap (λ (x : ℕ). nonzero (bit_at x i)) (sym (bits_at t q.dep.when q.when)) ∙ k.1) in
          q.passes (λ d. f d.when (outcome_of d.task)) (ap (λ (x : ℕ). f q.dep.when (outcome_of x)) q.on ∙ (ap (f q.dep.when) (outcome_there t r.1) ∙ bit))

-- ---- decisions

module _ (o : ℕ → Option Outcome) where
  all_met : (ds : List Dep) → list_any (λ d. is_failed (o d.task)) ds ≡ false → list_all (λ d. is_satisfied d.when (o d.task)) ds ≡ not (list_any (λ d. is_unmet d.when (o d.task)) ds)
  all_met [] h = refl
  all_met (d ∷ ds) h =
      let q = or_parts (is_failed (o d.task)) (list_any (λ d. is_failed (o d.task)) ds) h in
      by (is_failed (o d.task)) (is_satisfied d.when (o d.task)) q.0 (all_met ds q.1)
    where
      by : (x y : Bool) → x ≡ false → list_all (λ d. is_satisfied d.when (o d.task)) ds ≡ not (list_any (λ d. is_unmet d.when (o d.task)) ds)
          → (y && list_all (λ d. is_satisfied d.when (o d.task)) ds) ≡ not ((not x && not y) || list_any (λ d. is_unmet d.when (o d.task)) ds)
      by true y e k = absurd cc
      by false true e k = k
      by false false e k = refl

-- the decision over tests: whether one is failed, there is none, `join some`, one is unmet, one is met, and enough are met
truth_table : (failed none some unmet met enough : Bool) → (failed ≡ false → enough ≡ cond none true (cond some met (not unmet)))
    → (if failed then decision.Fail else (if enough then decision.Run else decision.Skip)) ≡ cond (not failed) (cond none decision.Run (cond some (cond (not met) decision.Skip decision.Run) (cond (not unmet) decision.Run decision.Skip))) decision.Fail
truth_table true none some unmet met enough h = refl
truth_table false none some unmet met enough h = ap (λ (b : Bool). if b then decision.Run else decision.Skip) (h refl) ∙ by none some unmet met
  where
    by : (none some unmet met : Bool) → (if cond none true (cond some met (not unmet)) then decision.Run else decision.Skip) ≡ cond none decision.Run (cond some (cond (not met) decision.Skip decision.Run) (cond (not unmet) decision.Run decision.Skip))
    by true some unmet met = refl
    by false true unmet true = refl
    by false true unmet false = refl
    by false false true met = refl
    by false false false met = refl

decide_as : (some : Bool) (deps b0 b1 b2 : ℕ) (failed unmet met : Bool) → failed ≡ nonzero b0 → unmet ≡ nonzero b1 → met ≡ nonzero b2
    → decide_by some deps (sign b0) (sign b1) (sign b2) ≡ cond (not failed) (cond (eqb deps 0) decision.Run (cond some (cond (not met) decision.Skip decision.Run) (cond (not unmet) decision.Run decision.Skip))) decision.Fail
decide_as some deps b0 b1 b2 failed unmet met p q r =
    ap (λ (c : Bool). cond c (cond (eqb deps 0) decision.Run (cond some (cond (eqb (sign b2) 0) decision.Skip decision.Run) (cond (eqb (sign b1) 0) decision.Run decision.Skip))) decision.Fail) (sign_zero b0 failed p)
    ∙ (ap (λ (c : Bool). cond (not failed) (cond (eqb deps 0) decision.Run (cond some (cond (eqb (sign b2) 0) decision.Skip decision.Run) (cond c decision.Run decision.Skip))) decision.Fail) (sign_zero b1 unmet q)
    ∙ ap (λ (c : Bool). cond (not failed) (cond (eqb deps 0) decision.Run (cond some (cond c decision.Skip decision.Run) (cond (not unmet) decision.Run decision.Skip))) decision.Fail) (sign_zero b2 met r))

enough_as : (some : Bool) (ds : List Dep) (o : List (Option Outcome)) → list_any (λ d. is_failed (outcome_at o d.task)) ds ≡ false
    → is_enough some ds o ≡ cond (eqb (length ds) 0) true (cond some (list_any (λ d. is_satisfied d.when (outcome_at o d.task)) ds) (not (list_any (λ d. is_unmet d.when (outcome_at o d.task)) ds)))
enough_as true [] o h = refl
enough_as false [] o h = refl
enough_as true (d ∷ ds) o h =
    sym (ap (λ (b : Bool). cond b true (list_any (λ d. is_satisfied d.when (outcome_at o d.task)) (d ∷ ds))) (ne_eqb (length (d ∷ ds)) 0 (λ (e : length (d ∷ ds) ≡ 0). omega arith)))
enough_as false (d ∷ ds) o h =
    all_met (outcome_at o) (d ∷ ds) h
    ∙ sym (ap (λ (b : Bool). cond b true (not (list_any (λ d. is_unmet d.when (outcome_at o d.task)) (d ∷ ds)))) (ne_eqb (length (d ∷ ds)) 0 (λ (e : length (d ∷ ds) ≡ 0). omega arith)))

-- The decision on a task by the outcomes of the serial run is that by the bits of its dependencies.
pub decision_is : (p : ProgramValue) (m : List ℕ) (u : ℕ) → IsMap p.map → u < length p.map.tasks → decision_of p m u ≡ decision_by (graph_of p m) u
decision_is p m u limits l =
    let task = task_at p u in
    let o = (serial_of p m).outcomes in
    let failed = has_failed task o in
    let unmet = list_any (λ d. is_unmet d.when (outcome_at o d.task)) task.deps in
    let met = list_any (λ d. is_satisfied d.when (outcome_at o d.task)) task.deps in
    truth_table failed (eqb (length task.deps) 0) task.some unmet met (is_enough task.some task.deps o) (enough_as task.some task.deps o)
    ∙ sym (decide_as task.some (length task.deps) _ _ _ failed unmet met
    (edges p m limits u 0 (λ w o. is_failed o) l failed_bit)
    (edges p m limits u 1 is_unmet l unmet_bit)
    (edges p m limits u 2 is_satisfied l met_bit))
