-- How the parts of a serial run follow from its tasks, one after another.
use Rattle.std.proofs.Common.{◌≡◌, ◌≢◌, ℕ, zero, suc, ◌+◌, ◌<◌, ◌≤◌, Bool, true, false, ◌||◌, ◌&&◌, eqb, ltb, List, [], ◌∷◌, ◌++◌, length, map, fold, Option, Some, None, refl, sym, ap, subst, ◌∙◌, arith, eqb-true, ⊎_elim, append-nil, append_assoc, get_or-set_other}
use Rattle.std.specs.Prelude.{slice_set}
use Rattle.std.specs.List.{range_with_len}
use Rattle.std.proofs.Math.ListN.{length-set}
use Rattle.std.proofs.Math.Bool.{or-false}
use Rattle.std.proofs.lemmas.Bool.{eq-eqb, ne_eqb, cases_eq, cases_lt, lt-ltb, le-ltb, ltb-true, or_parts, false_from_ne_true, true≢false}
use Rattle.std.proofs.lemmas.List.{length-replicate, map-append}
use Rattle.std.proofs.lemmas.List.FromFn.{map-range_with_len_more}
use Rattle.std.proofs.lemmas.List.Sums.{fold-append}
use Rattle.std.proofs.lemmas.List.Folds.{list_any-append}
use Rattle.std.proofs.lemmas.Grind.{get_or-set_at}
use Rattle.plural_map.specs.declared.outcome.Outcome.{Outcome}
use Rattle.plural_map.specs.declared.outcome.Decision.{Decision}
use Rattle.plural_map.specs.declared.outcome.Decision.TheVariants as decision
use Rattle.plural_map.specs.Limits.{IsMap}
use Rattle.plural_map.specs.Decisions.{decided, outcome_at}
use Rattle.plural_map.specs.Order.{is_among}
use Rattle.plural_map.specs.Value.{no_task}
use Rattle.plural_map.proofs.OrderPlaces.{among_within}
use Rattle.plural_map.proofs.OrderCuts.{Distinct, order_distinct, distinct_apart, cut_at, deps_before}
use Rattle.plural_map.proofs.DecisionLemmas.{dependencies_among, decided_same}
use Rattle.plural_serial.specs.Program.{ProgramValue, task_at, life_of}
use Rattle.plural_serial.specs.Serial.{Started, Run, instances, with_task, by_decision, opening, serial_of}
use Rattle.plural_serial.specs.Instances.{Inst, same, is_in, instance_of, insts}
use Rattle.plural_serial.specs.Stretches.{stretch_of, memory_of, result_of, runs_of, numbers_of, decision_of, numbers_along, Chain, IsDecided}
use Rattle.plural_serial.specs.Laws.{SerialInstances, WhoRan, SerialSettled}

-- ---- one task

-- One task more, by what is decided over the outcomes so far.
pub task_is : (p : ProgramValue) (r : Run) (t : ℕ) → with_task p r t ≡ record {
  memory = memory_of (decided (task_at p t) r.outcomes) p t r.memory;
  outcomes = slice_set r.outcomes t (Some (result_of (decided (task_at p t) r.outcomes) p t r.memory));
  ran = r.ran ++ stretch_of (decided (task_at p t) r.outcomes) p t r.memory;
}
unfolding with_task
task_is p r t = by (decided (task_at p t) r.outcomes)
  where
    by : (d : Decision) → by_decision d p t r ≡ record { memory = memory_of d p t r.memory; outcomes = slice_set r.outcomes t (Some (result_of d p t r.memory)); ran = r.ran ++ stretch_of d p t r.memory }
    by decision.Fail = rw append-nil refl
    by decision.Skip = rw append-nil refl
    by decision.Run = refl

-- ---- outcomes

-- Tasks keep the number of outcomes.
outcomes_long : (p : ProgramValue) (ts : List ℕ) (r : Run) → length (fold (with_task p) r ts).outcomes ≡ length r.outcomes
outcomes_long p [] r = refl
outcomes_long p (t ∷ ts) r = outcomes_long p ts (with_task p r t) ∙ (ap (λ (x : Run). length x.outcomes) (task_is p r t) ∙ length-set _ _ _)

-- Tasks leave the outcomes of others.
outcome_else : (p : ProgramValue) (ts : List ℕ) (r : Run) (u : ℕ) → is_among u ts ≡ false → outcome_at (fold (with_task p) r ts).outcomes u ≡ outcome_at r.outcomes u
outcome_else p [] r u h = refl
outcome_else p (t ∷ ts) r u h =
    let q = or_parts (eqb t u) (is_among u ts) h in
    let ne : u ≢ t = λ (e : u ≡ t). absurd (true≢false (sym (eq-eqb t u (sym e)) ∙ q.0)) in
    outcome_else p ts (with_task p r t) u q.1 ∙ (ap (λ (x : Run). outcome_at x.outcomes u) (task_is p r t) ∙ get_or-set_other r.outcomes t u (Some (result_of (decided (task_at p t) r.outcomes) p t r.memory)) None ne)

-- A task has the outcome that is decided.
outcome_own : (p : ProgramValue) (r : Run) (t : ℕ) → t < length r.outcomes → outcome_at (with_task p r t).outcomes t ≡ Some (result_of (decided (task_at p t) r.outcomes) p t r.memory)
outcome_own p r t l = ap (λ (x : Run). outcome_at x.outcomes t) (task_is p r t) ∙ get_or-set_at r.outcomes t t _ None refl l

no_outcome : Option Outcome
no_outcome = None

-- A serial run has one outcome for each task.
pub outcomes_each : (p : ProgramValue) (m : List ℕ) → length (serial_of p m).outcomes ≡ length p.map.tasks
unfolding no_outcome
outcomes_each p m = outcomes_long p p.map.order (opening p m) ∙ length-replicate (length p.map.tasks) no_outcome

-- ---- who ran

-- The instances of two lists in a row.
insts_append : (xs ys : List Started) → insts (xs ++ ys) ≡ insts xs ++ insts ys
insts_append xs ys = map-append instance_of xs ys

-- An instance is in two lists in a row if it is in one of them.
in_insts : (i : Inst) (xs ys : List Started) → is_in i (insts (xs ++ ys)) ≡ (is_in i (insts xs) || is_in i (insts ys))
in_insts i xs ys = ap (is_in i) (insts_append xs ys) ∙ list_any-append (same i) (insts xs) (insts ys)

-- The first n instances of task t are those of the numbers below n.
instances_in : (p : ProgramValue) (t n : ℕ) (m : List ℕ) (u k : ℕ) → is_in (u, k) (insts (instances p t n m).ran) ≡ (eqb u t && ltb k n)
unfolding instances
instances_in p t zero m u k = rw (le-ltb k 0 (omega arith)) (last (eqb u t))
  where
    last : (b : Bool) → false ≡ (b && false)
    last true = refl
    last false = refl
instances_in p t (suc n) m u k =
    in_insts (u, k) (instances p t n m).ran (record { t = t; k = n; start = (instances p t n m).memory } ∷ [])
    ∙ (ap (λ (b : Bool). b || ((eqb u t && eqb k n) || false)) (instances_in p t n m u k) ∙ by (eqb u t))
  where
    by : (b : Bool) → ((b && ltb k n) || ((b && eqb k n) || false)) ≡ (b && ltb k (suc n))
    by false = refl
    by true = ⊎_elim
        (λ (l : k < n). rw (lt-ltb k n l, lt-ltb k (suc n) (omega arith)) refl)
        (λ (l : n ≤ k). rw (le-ltb k n l) (⊎_elim
        (λ (e : k ≡ n). rw (eq-eqb k n e, lt-ltb k (suc n) (omega arith)) refl)
        (λ (e : k ≢ n). rw (ne_eqb k n e, le-ltb k (suc n) (omega arith)) refl)
        (cases_eq k n)))
        (cases_lt k n)

eqb_back : (x t : ℕ) → eqb x t ≡ false → eqb t x ≡ false
eqb_back x t e = false_from_ne_true (eqb t x) (λ h. true≢false (sym (eq-eqb x t (sym (eqb-true t x h))) ∙ e))

-- A stretch has no instance of another task.
stretch_else : (d : Decision) (p : ProgramValue) (t : ℕ) (m : List ℕ) (u k : ℕ) → eqb u t ≡ false → is_in (u, k) (insts (stretch_of d p t m)) ≡ false
stretch_else decision.Fail p t m u k h = refl
stretch_else decision.Skip p t m u k h = refl
stretch_else decision.Run p t m u k h = instances_in p t (task_at p t).quota m u k ∙ rw h refl

-- It has the task's own as decided.
stretch_own : (d : Decision) (p : ProgramValue) (t : ℕ) (m : List ℕ) (k : ℕ) → is_in (t, k) (insts (stretch_of d p t m)) ≡ runs_of d p t k
stretch_own decision.Fail p t m k = refl
stretch_own decision.Skip p t m k = refl
stretch_own decision.Run p t m k = instances_in p t (task_at p t).quota m t k ∙ rw (eq-eqb t t refl) refl

-- What tasks add to a run: instances of these tasks alone.
record RanMore (p : ProgramValue) (ts : List ℕ) (r : Run) : Type 0 where
  pub extra : List Started
  pub ran : (fold (with_task p) r ts).ran ≡ r.ran ++ extra
  pub none : (u k : ℕ) → is_among u ts ≡ false → is_in (u, k) (insts extra) ≡ false

-- Tasks add instances of their own alone.
ran_more : (p : ProgramValue) (ts : List ℕ) (r : Run) → RanMore p ts r
ran_more p [] r = record { extra = []; ran = sym (append-nil r.ran); none = λ u k h. refl }
ran_more p (t ∷ ts) r =
    let s = stretch_of (decided (task_at p t) r.outcomes) p t r.memory in
    let m = ran_more p ts (with_task p r t) in
    record {
      extra = s ++ m.extra;
      ran = m.ran ∙ (ap (λ (x : Run). x.ran ++ m.extra) (task_is p r t) ∙ append_assoc r.ran s m.extra);
      none = λ u k h.
          let q = or_parts (eqb t u) (is_among u ts) h in
          in_insts (u, k) s m.extra ∙ rw (stretch_else (decided (task_at p t) r.outcomes) p t r.memory u k (eqb_back t u q.0), m.none u k q.1) refl;
    }

-- ---- memories

-- Two chains in a row.
chain_append : (p : ProgramValue) (m n o : List ℕ) (xs ys : List Started) → Chain p m xs n → Chain p n ys o → Chain p m (xs ++ ys) o
chain_append p m n o [] ys c d = subst (λ (l : List ℕ). Chain p l ys o) (sym c) d
chain_append p m n o (x ∷ xs) ys c d = (c.0, chain_append p (life_of p x.t x.k m).memory n o xs ys c.1 d)

chain_instances : (p : ProgramValue) (t n : ℕ) (m : List ℕ) → Chain p m (instances p t n m).ran (instances p t n m).memory
unfolding instances
chain_instances p t zero m = refl
chain_instances p t (suc n) m =
    chain_append p m (instances p t n m).memory (life_of p t n (instances p t n m).memory).memory (instances p t n m).ran (record { t = t; k = n; start = (instances p t n m).memory } ∷ [])
    (chain_instances p t n m) (refl, refl)

chain_stretch : (d : Decision) (p : ProgramValue) (t : ℕ) (m : List ℕ) → Chain p m (stretch_of d p t m) (memory_of d p t m)
chain_stretch decision.Fail p t m = refl
chain_stretch decision.Skip p t m = refl
chain_stretch decision.Run p t m = chain_instances p t (task_at p t).quota m

chain_fold : (p : ProgramValue) (m : List ℕ) (ts : List ℕ) (r : Run) → Chain p m r.ran r.memory → Chain p m (fold (with_task p) r ts).ran (fold (with_task p) r ts).memory
chain_fold p m [] r c = c
chain_fold p m (t ∷ ts) r c =
    let d = decided (task_at p t) r.outcomes in
    chain_fold p m ts (with_task p r t)
    (subst (λ (x : Run). Chain p m x.ran x.memory) (sym (task_is p r t)) (chain_append p m r.memory (memory_of d p t r.memory) r.ran (stretch_of d p t r.memory) c (chain_stretch d p t r.memory)))

-- The instances of a serial run ran one after another from the opening image to the last memory.
pub serial_chain : (p : ProgramValue) (m : List ℕ) → Chain p m (serial_of p m).ran (serial_of p m).memory
serial_chain p m = chain_fold p m p.map.order (opening p m) refl

-- ---- the place of a task

-- Cut at a task of the order, the run is that over the tasks before it, then the task, then those after it.
cut_run : (p : ProgramValue) (m : List ℕ) (front : List ℕ) (t : ℕ) (back : List ℕ) → p.map.order ≡ front ++ t ∷ back
    → serial_of p m ≡ fold (with_task p) (fold (with_task p) (opening p m) front) (t ∷ back)
cut_run p m front t back is = ap (λ (o : List ℕ). fold (with_task p) (opening p m) o) is ∙ fold-append (with_task p) (opening p m) front (t ∷ back)

-- The order has no number twice, also as the map keeps it.
map_distinct : (p : ProgramValue) → IsMap p.map → Distinct p.map.order
map_distinct p limits = subst (λ (o : List ℕ). Distinct o) (sym limits.ordered) (order_distinct p.map.tasks)

-- At its turn a task is decided as by the outcomes of the whole run.
decision_there : (p : ProgramValue) (m : List ℕ) → IsMap p.map → (front : List ℕ) (t : ℕ) (back : List ℕ) → p.map.order ≡ front ++ t ∷ back
    → decided (task_at p t) (fold (with_task p) (opening p m) front).outcomes ≡ decision_of p m t
decision_there p m limits front t back is =
    let r0 = fold (with_task p) (opening p m) front in
    let final = (serial_of p m).outcomes in
    let distinct : Distinct (front ++ t ∷ back) = subst (λ (o : List ℕ). Distinct o) is (map_distinct p limits) in
    decided_same (task_at p t) r0.outcomes final
    (dependencies_among (λ u. outcome_at r0.outcomes u ≡ outcome_at final u) front (task_at p t).deps
    (λ u h. sym (ap (λ (x : Run). outcome_at x.outcomes u) (cut_run p m front t back is) ∙ outcome_else p (t ∷ back) r0 u (distinct_apart front (t ∷ back) u distinct h)))
    (deps_before p.map.tasks front t back no_task (sym limits.ordered ∙ is)))

-- Each task has its place and its outcome by the decision over all outcomes.
pub decided_at : (p : ProgramValue) (m : List ℕ) (t : ℕ) → IsMap p.map → t < length p.map.tasks → IsDecided p m t
unfolding no_outcome
decided_at p m t limits l =
    let c = cut_at p.map.order t (map_distinct p limits) (limits.reaches t l) in
    let r0 = fold (with_task p) (opening p m) c.front in
    let r1 = with_task p r0 t in
    let whole : serial_of p m ≡ fold (with_task p) r1 c.back = cut_run p m c.front t c.back c.is in
    let same : decided (task_at p t) r0.outcomes ≡ decision_of p m t = decision_there p m limits c.front t c.back c.is in
    let more = ran_more p c.back r1 in
    let first = ran_more p c.front (opening p m) in
    record {
      memory = r0.memory;
      earlier = r0.ran;
      later = more.extra;
      ran = ap (λ (x : Run). x.ran) whole ∙ (more.ran
          ∙ (ap (λ (x : Run). x.ran ++ more.extra) (task_is p r0 t)
          ∙ (ap (λ (d : Decision). (r0.ran ++ stretch_of d p t r0.memory) ++ more.extra) same
          ∙ append_assoc r0.ran (stretch_of (decision_of p m t) p t r0.memory) more.extra)));
      before = chain_fold p m c.front (opening p m) refl;
      not_earlier = λ k. ap (λ (x : List Started). is_in (t, k) (insts x)) first.ran ∙ first.none t k c.not_front;
      not_later = λ k. more.none t k c.not_back;
      outcome = ap (λ (x : Run). outcome_at x.outcomes t) whole
          ∙ (outcome_else p c.back r1 t c.not_back
          ∙ (outcome_own p r0 t (omega (arith, l, outcomes_long p c.front (opening p m), length-replicate (length p.map.tasks) no_outcome))
          ∙ ap (λ (d : Decision). Some (result_of d p t r0.memory)) same));
    }

-- The serial run has one outcome for each task, and each is that of the decision over all outcomes.
pub serial_settled : SerialSettled
serial_settled p m limits = record { one_each = outcomes_each p m; decided = λ t l. decided_at p m t limits l }

-- ---- which instances ran

-- Of a task of the map the instances ran that the decision over all outcomes says.
pub who_ran : (p : ProgramValue) (m : List ℕ) (t k : ℕ) → IsMap p.map → t < length p.map.tasks → is_in (t, k) (insts (serial_of p m).ran) ≡ runs_of (decision_of p m t) p t k
who_ran p m t k limits l =
    let d = decided_at p m t limits l in
    let s = stretch_of (decision_of p m t) p t d.memory in
    ap (λ (x : List Started). is_in (t, k) (insts x)) d.ran
    ∙ (in_insts (t, k) d.earlier (s ++ d.later)
    ∙ (ap (λ (b : Bool). b || is_in (t, k) (insts (s ++ d.later))) (d.not_earlier k)
    ∙ (in_insts (t, k) s d.later
    ∙ (ap (λ (b : Bool). is_in (t, k) (insts s) || b) (d.not_later k)
    ∙ (or-false (is_in (t, k) (insts s)) ∙ stretch_own (decision_of p m t) p t d.memory k)))))

-- No instance of a number past the last task ran.
pub none_past : (p : ProgramValue) (m : List ℕ) (t k : ℕ) → IsMap p.map → length p.map.tasks ≤ t → is_in (t, k) (insts (serial_of p m).ran) ≡ false
none_past p m t k limits l =
    let more = ran_more p p.map.order (opening p m) in
    let absent : is_among t p.map.order ≡ false
    = false_from_ne_true (is_among t p.map.order) (λ h.
    let w = among_within p.map.tasks t (subst (λ (o : List ℕ). is_among t o ≡ true) limits.ordered h) in
    omega (arith, w, l)) in
    ap (λ (x : List Started). is_in (t, k) (insts x)) more.ran ∙ more.none t k absent

-- What a decision runs of a task it runs because it decides so.
runs_when : (d : Decision) (p : ProgramValue) (t k : ℕ) → runs_of d p t k ≡ true → (d ≡ decision.Run) × (k < (task_at p t).quota)
runs_when decision.Fail p t k e = absurd cc
runs_when decision.Skip p t k e = absurd cc
runs_when decision.Run p t k e = (refl, ltb-true k (task_at p t).quota e)

-- Which instances ran.
pub which_ran : WhoRan
which_ran p m t k limits = (
  (λ r. ⊎_elim
      (λ (l : t < length p.map.tasks). let w = runs_when (decision_of p m t) p t k (sym (who_ran p m t k limits l) ∙ r) in (l, w.0, w.1))
      (λ (l : length p.map.tasks ≤ t). absurd (true≢false (sym r ∙ none_past p m t k limits l)))
      (cases_lt t (length p.map.tasks))),
  (λ h. who_ran p m t k limits h.0 ∙ (ap (λ (d : Decision). runs_of d p t k) h.1 ∙ lt-ltb k (task_at p t).quota h.2)),
)

-- What ran is an instance of the map.
pub ran_instances : (p : ProgramValue) (m : List ℕ) → IsMap p.map → (t k : ℕ) → is_in (t, k) (insts (serial_of p m).ran) ≡ true → (t < length p.map.tasks) × (k < (task_at p t).quota)
ran_instances p m limits t k r = let w = (which_ran p m t k limits).0 r in (w.0, w.2)

-- ---- the list of instances

-- The first n instances of a task are those of the numbers below n, rising.
numbers_instances : (p : ProgramValue) (t n : ℕ) (m : List ℕ) → insts (instances p t n m).ran ≡ map (λ (k : ℕ). (t, k)) (range_with_len 0 n)
unfolding instances
numbers_instances p t zero m = refl
numbers_instances p t (suc n) m =
    let one : suc n ≡ n + 1 = omega arith in
    insts_append (instances p t n m).ran (record { t = t; k = n; start = (instances p t n m).memory } ∷ [])
    ∙ (ap (λ (is : List Inst). is ++ (t, n) ∷ []) (numbers_instances p t n m)
    ∙ (sym (map-range_with_len_more (λ (k : ℕ). (t, k)) 0 n n (omega arith)) ∙ ap (λ (i : ℕ). map (λ (k : ℕ). (t, k)) (range_with_len 0 i)) (sym one)))

numbers_stretch : (d : Decision) (p : ProgramValue) (t : ℕ) (m : List ℕ) → insts (stretch_of d p t m) ≡ numbers_of d p t
numbers_stretch decision.Fail p t m = refl
numbers_stretch decision.Skip p t m = refl
numbers_stretch decision.Run p t m = numbers_instances p t (task_at p t).quota m

-- From any task of the order on.
numbers_from : (p : ProgramValue) (m : List ℕ) → IsMap p.map → (front ts : List ℕ) → p.map.order ≡ front ++ ts
    → insts (fold (with_task p) (fold (with_task p) (opening p m) front) ts).ran ≡ insts (fold (with_task p) (opening p m) front).ran ++ numbers_along p m ts
numbers_from p m limits front [] is = sym (append-nil _)
numbers_from p m limits front (t ∷ ts) is =
    let r0 = fold (with_task p) (opening p m) front in
    let push : fold (with_task p) (opening p m) (front ++ t ∷ []) ≡ with_task p r0 t = fold-append (with_task p) (opening p m) front (t ∷ []) in
    let rest = numbers_from p m limits (front ++ t ∷ []) ts (is ∙ sym (append_assoc front (t ∷ []) ts)) in
    let d = decided (task_at p t) r0.outcomes in
    let own : insts (stretch_of d p t r0.memory) ≡ numbers_of (decision_of p m t) p t
    = numbers_stretch d p t r0.memory ∙ ap (λ (e : Decision). numbers_of e p t) (decision_there p m limits front t ts is) in
    let one : insts (with_task p r0 t).ran ≡ insts r0.ran ++ numbers_of (decision_of p m t) p t
    = ap (λ (x : Run). insts x.ran) (task_is p r0 t) ∙ (insts_append r0.ran (stretch_of d p t r0.memory) ∙ ap (λ (is : List Inst). insts r0.ran ++ is) own) in
    ap (λ (x : Run). insts (fold (with_task p) x ts).ran) (sym push)
    ∙ (rest
    ∙ (ap (λ (x : Run). insts x.ran ++ numbers_along p m ts) push
    ∙ (ap (λ (is : List Inst). is ++ numbers_along p m ts) one ∙ append_assoc (insts r0.ran) (numbers_of (decision_of p m t) p t) (numbers_along p m ts))))

-- The instances that ran are those of the tasks that the outcomes decide to run, along the order.
pub serial_instances : SerialInstances
serial_instances p m limits = numbers_from p m limits [] p.map.order refl
