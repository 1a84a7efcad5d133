-- The serial run of a program is a task graph.
use Rattle.std.proofs.Common.{◌≡◌, ℕ, zero, suc, ◌<◌, ◌≤◌, Bool, true, false, not, ◌||◌, eqb, lt-ltb, cond, List, [], ◌∷◌, ◌++◌, length, map, Option, refl, sym, ap, ◌∙◌, arith, ◌⊎◌, inl, inr, ⊎_elim, append_assoc}
use Rattle.std.specs.Prelude.{if◌then◌else◌, unwrap_or}
use Rattle.std.specs.List.{list_any}
use Rattle.std.specs.Int.{bit_at}
use Rattle.std.proofs.lemmas.Bool.{cases_lt}
use Rattle.std.proofs.lemmas.List.{map-append}
use Rattle.std.proofs.lemmas.List.Folds.{list_any-append}
use Rattle.plural_core.specs.declared.end.End.{End}
use Rattle.plural_core.specs.declared.end.End.TheVariants as end
use Rattle.plural_map.specs.declared.outcome.Outcome.{Outcome}
use Rattle.plural_map.specs.declared.outcome.Outcome.TheVariants as outcome
use Rattle.plural_map.specs.declared.outcome.Decision.{Decision}
use Rattle.plural_map.specs.declared.outcome.Decision.TheVariants as decision
use Rattle.plural_map.specs.Value.{no_task}
use Rattle.plural_map.specs.Limits.{IsMap}
use Rattle.plural_reach.specs.Chains.{DependsOn, LeadsBack, comes_before}
use Rattle.plural_reach.proofs.DepLemmas.{names}
use Rattle.plural_reach.proofs.Ranks.{task_within, dep_rises, before_test}
use Rattle.plural_reach.proofs.TableEntries.{reaches_all}
use Rattle.plural_serial.specs.Program.{ProgramValue, task_at}
use Rattle.plural_serial.specs.Serial.{Started, instances, end_of, is_failure, is_code_1, serial_of}
use Rattle.plural_serial.specs.Instances.{is_in}
use Rattle.plural_serial.specs.Stretches.{stretch_of, result_of, runs_of, decision_of, IsDecided}
use Rattle.plural_serial.proofs.Stretches.{decided_at}
use Rattle.plural_serial.proofs.Stretches.{who_ran, ran_instances}
use Rattle.plural_order.specs.Sums.{sum_below, sign, times}
use Rattle.plural_order.specs.World.{start_at}
use Rattle.plural_order.specs.ProgramWorld.{world_of}
use Rattle.plural_order.specs.TaskGraph.{any_end, outcome_by, decision_by}
use Rattle.plural_order.specs.ProgramGraph.{bits_of_end, successors_of, outcome_in, end_bits_in, graph_of, GraphOfProgram}
use Rattle.plural_order.proofs.Sums.{nonzero, one_of, nonzero_add, sign_zero, below_same}
use Rattle.plural_order.proofs.Chains.{start_is}
use Rattle.plural_order.proofs.Dependencies.{times_successor, successor_once, successor_depends, depends_successor, named_within, deps_named, deps_apart, decision_is}

-- ---- the ends of a task's instances

-- Instance k of those of a task.
abbrev instance_at : ProgramValue → (t k : ℕ) → List ℕ → Started
instance_at p t k m = record { t = t; k = k; start = (instances p t k m).memory }

-- It stands between others of the first n.
record IsPart (p : ProgramValue) (t n k : ℕ) (m : List ℕ) : Type 0 where
  past : List Started
  rest : List Started
  is : (instances p t n m).ran ≡ past ++ instance_at p t k m ∷ rest

part_at : (p : ProgramValue) (t n k : ℕ) (m : List ℕ) → k < n → IsPart p t n k m
unfolding instances
part_at p t zero k m l = absurd (omega arith)
part_at p t (suc n) k m l = ⊎_elim
    (λ (h : k < n). let r = part_at p t n k m h in record {
      past = r.past;
      rest = r.rest ++ instance_at p t n m ∷ [];
      is = ap (λ (x : List Started). x ++ instance_at p t n m ∷ []) r.is ∙ append_assoc r.past (instance_at p t k m ∷ r.rest) (instance_at p t n m ∷ []);
    })
    (λ (h : n ≤ k). let e : n ≡ k = omega arith in record {
      past = (instances p t n m).ran;
      rest = [];
      is = ap (λ (x : ℕ). (instances p t n m).ran ++ instance_at p t x m ∷ []) e;
    })
    (cases_lt k n)

or_nothing : (b : Bool) → (b || false) ≡ b
or_nothing true = refl
or_nothing false = refl

-- Some end of the first n instances passes exactly if some of the numbers isn't 0.
any_ends : (f : End → Bool) (g : ℕ → ℕ) (p : ProgramValue) (t n : ℕ) (m : List ℕ) → ((k : ℕ) → k < n → f (end_of p (instance_at p t k m)) ≡ nonzero (g k))
    → list_any f (map (end_of p) (instances p t n m).ran) ≡ nonzero (sum_below g n)
unfolding instances
any_ends f g p t zero m h = refl
any_ends f g p t (suc n) m h =
    ap (list_any f) (map-append (end_of p) (instances p t n m).ran (instance_at p t n m ∷ []))
    ∙ (list_any-append f (map (end_of p) (instances p t n m).ran) (end_of p (instance_at p t n m) ∷ [])
    ∙ (ap (λ (b : Bool). b || (f (end_of p (instance_at p t n m)) || false)) (any_ends f g p t n m (λ k l. h k (omega arith)))
    ∙ (ap (λ (b : Bool). nonzero (sum_below g n) || (b || false)) (h n (omega arith))
    ∙ (ap (λ (b : Bool). nonzero (sum_below g n) || b) (or_nothing (nonzero (g n))) ∙ sym (nonzero_add (sum_below g n) (g n))))))

failure_bit : (e : End) → is_failure e ≡ nonzero (bit_at (bits_of_end e) 1)
failure_bit end.Code0 = refl
failure_bit end.Code1 = refl
failure_bit (end.Trap cause pc) = refl
failure_bit end.Exhausted = refl

code_bit : (e : End) → is_code_1 e ≡ nonzero (bit_at (bits_of_end e) 0)
code_bit end.Code0 = refl
code_bit end.Code1 = refl
code_bit (end.Trap cause pc) = refl
code_bit end.Exhausted = refl

outcome_as : (failed one : ℕ) (x y : Bool) → x ≡ nonzero failed → y ≡ nonzero one
    → (if x then outcome.Failed else (if y then outcome.Ended1 else outcome.Ended0)) ≡ outcome_by (sign failed) (sign one)
outcome_as failed one x y p q =
    sym (ap (λ (c : Bool). cond c (cond (eqb (sign one) 0) outcome.Ended0 outcome.Ended1) outcome.Failed) (sign_zero failed x p)
    ∙ (ap (λ (c : Bool). cond (not x) (cond c outcome.Ended0 outcome.Ended1) outcome.Failed) (sign_zero one y q) ∙ by x y))
  where
    by : (x y : Bool) → cond (not x) (cond (not y) outcome.Ended0 outcome.Ended1) outcome.Failed ≡ (if x then outcome.Failed else (if y then outcome.Ended1 else outcome.Ended0))
    by true y = refl
    by false true = refl
    by false false = refl

module _ (p : ProgramValue) (m : List ℕ) (limits : IsMap p.map) (t : ℕ) (l : t < length p.map.tasks) where
  -- a task all of whose instances ran was decided to run
  was_run : ((k : ℕ) → k < (task_at p t).quota → is_in (t, k) (world_of p m).ran ≡ true) → decision_of p m t ≡ decision.Run
  was_run all = by (decision_of p m t) (sym (who_ran p m t 0 limits l) ∙ all 0 some)
    where
      some : 0 < (task_at p t).quota
      some = let low = (limits.each t no_task l).quota_low in omega arith

      by : (d : Decision) → runs_of d p t 0 ≡ true → d ≡ decision.Run
      by decision.Fail e = absurd cc
      by decision.Skip e = absurd cc
      by decision.Run e = refl

  -- the end of an instance that ran is that of the world's life at its start
  end_is : (d : IsDecided p m t) → decision_of p m t ≡ decision.Run → (k : ℕ) → k < (task_at p t).quota
      → end_of p (instance_at p t k d.memory) ≡ ((world_of p m).life (t, k) (start_at (world_of p m) (t, k))).over
  end_is d run k h =
      let part = part_at p t (task_at p t).quota k d.memory h in
      let whole : (serial_of p m).ran ≡ (d.earlier ++ part.past) ++ instance_at p t k d.memory ∷ (part.rest ++ d.later)
      = d.ran
      ∙ (ap (λ (x : Decision). d.earlier ++ (stretch_of x p t d.memory ++ d.later)) run
      ∙ (ap (λ (x : List Started). d.earlier ++ (x ++ d.later)) part.is
      ∙ (ap (λ (x : List Started). d.earlier ++ x) (append_assoc part.past (instance_at p t k d.memory ∷ part.rest) d.later)
      ∙ sym (append_assoc d.earlier part.past (instance_at p t k d.memory ∷ (part.rest ++ d.later)))))) in
      ap (λ (n : List ℕ). ((world_of p m).life (t, k) n).over) (start_is p m limits (d.earlier ++ part.past) (instance_at p t k d.memory) (part.rest ++ d.later) whole)

  ran_outcome : ((k : ℕ) → k < (task_at p t).quota → is_in (t, k) (world_of p m).ran ≡ true) → outcome_in p m t ≡ outcome_by (any_end (graph_of p m) t 1) (any_end (graph_of p m) t 0)
  ran_outcome all =
      let d = decided_at p m t limits l in
      let q = (task_at p t).quota in
      let run = was_run all in
      let ends = map (end_of p) (instances p t q d.memory).ran in
      ap (λ (o : Option Outcome). unwrap_or o outcome.Failed) d.outcome
      ∙ (ap (λ (x : Decision). result_of x p t d.memory) run
      ∙ outcome_as (sum_below (λ k. bit_at (end_bits_in p m t k) 1) q) (sum_below (λ k. bit_at (end_bits_in p m t k) 0) q)
      (list_any is_failure ends) (list_any is_code_1 ends)
      (any_ends is_failure (λ k. bit_at (end_bits_in p m t k) 1) p t q d.memory
      (λ k h. failure_bit (end_of p (instance_at p t k d.memory)) ∙ ap (λ (e : End). nonzero (bit_at (bits_of_end e) 1)) (end_is d run k h)))
      (any_ends is_code_1 (λ k. bit_at (end_bits_in p m t k) 0) p t q d.memory
      (λ k h. code_bit (end_of p (instance_at p t k d.memory)) ∙ ap (λ (e : End). nonzero (bit_at (bits_of_end e) 0)) (end_is d run k h))))

  -- what a decision does
  runs_when : (k : ℕ) → decision_by (graph_of p m) t ≡ decision.Run → k < (task_at p t).quota → is_in (t, k) (world_of p m).ran ≡ true
  runs_when k e h = who_ran p m t k limits l ∙ (ap (λ (d : Decision). runs_of d p t k) (decision_is p m t limits l ∙ e) ∙ lt-ltb k (task_at p t).quota h)

  rests_when : (d : Decision) → decision_by (graph_of p m) t ≡ d → (outcome_in p m t ≡ result_of d p t (decided_at p m t limits l).memory) × ((k : ℕ) → is_in (t, k) (world_of p m).ran ≡ runs_of d p t k)
  rests_when d e =
      let a = decided_at p m t limits l in
      let is = decision_is p m t limits l ∙ e in (
        ap (λ (o : Option Outcome). unwrap_or o outcome.Failed) a.outcome ∙ ap (λ (x : Decision). result_of x p t a.memory) is,
        (λ k. who_ran p m t k limits l ∙ ap (λ (x : Decision). runs_of x p t k) is),
      )

-- ---- what comes before

-- What comes before a task is one that it depends on, or comes before such a one.
abbrev IsBeforeBy : ProgramValue → (x u : ℕ) → Type 0
IsBeforeBy p x u = (t : ℕ) × (t < length p.map.tasks) × (1 ≤ times u (successors_of p.map.tasks t)) × ((x ≡ t) ⊎ (comes_before p.map.tasks x t ≡ true))

before_dep : (p : ProgramValue) (m : List ℕ) → IsMap p.map → (x u : ℕ) → comes_before p.map.tasks x u ≡ true → IsBeforeBy p x u
before_dep p m limits x u h = let b = (before_test p.map.tasks (reaches_all p.map limits) x u).0 h in by b.0 b.1
  where
    within : (t : ℕ) → DependsOn p.map.tasks u t → t < length p.map.tasks
    within t d = named_within (length p.map.tasks) (task_at p u).deps t (deps_apart p m limits u (task_within p.map.tasks u t d)) d

    one : (t : ℕ) → DependsOn p.map.tasks u t → 1 ≤ times u (successors_of p.map.tasks t)
    one t d = omega (arith, depends_successor p.map.tasks t u d)

    by : (between : List ℕ) → LeadsBack p.map.tasks u between x → IsBeforeBy p x u
    by [] d = (x, within x d, one x d, inl refl)
    by (w ∷ between) d = (w, within w d.0, one w d.0, inr ((before_test p.map.tasks (reaches_all p.map limits) x w).1 (between, d.1)))

-- The serial run of a program is a task graph.
pub graph_of_program : GraphOfProgram
graph_of_program p m limits = record {
  successor_once = successor_once p.map.tasks;
  successor_task = λ t u h. (successor_depends p.map.tasks t u h).0;
  rises = λ t u h. dep_rises p.map.tasks (reaches_all p.map limits) u t (successor_depends p.map.tasks t u h).1;
  deps_counted = λ u l. deps_named (length p.map.tasks) (task_at p u).deps (deps_apart p m limits u l)
      ∙ sym (below_same (λ t. times u (successors_of p.map.tasks t)) (λ t. one_of (names (task_at p u).deps t)) (length p.map.tasks)
      (λ t h. times_successor p.map.tasks t u l));
  quota_some = λ t l. (limits.each t no_task l).quota_low;
  ran_instances = ran_instances p m limits;
  outcome_ran = λ t l all. ran_outcome p m limits t l all;
  runs = λ u k l e h. runs_when p m limits u l k e h;
  skips = λ u l e. rests_when p m limits u l decision.Skip e;
  fails = λ u l e. rests_when p m limits u l decision.Fail e;
  before_by = before_dep p m limits;
  before_successor = λ t u h. (before_test p.map.tasks (reaches_all p.map limits) t u).1 ([], (successor_depends p.map.tasks t u h).1);
}
