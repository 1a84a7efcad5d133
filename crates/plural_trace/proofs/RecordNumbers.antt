-- The records of a serial run stand by the numbers of their instances.
use Rattle.std.proofs.Common.{◌≡◌, ℕ, zero, suc, ◌+◌, ◌-◌, ◌<◌, eqb, cond, List, [], ◌∷◌, ◌++◌, length, drop, get_or, refl, sym, ap, subst, ◌∙◌, arith, inl, inr}
use Rattle.std.specs.Prelude.{fold, slice_index}
use Rattle.std.specs.List.{All}
use Rattle.std.proofs.lemmas.Bool.{cases_lt, eq-eqb, ne_eqb}
use Rattle.std.proofs.lemmas.List.{length-append, length-map, get_or_append_left, get_or-append_right, get_or_push, get_or-map, drop_more, drop_all}
use Rattle.plural_map.specs.declared.outcome.Decision.{Decision}
use Rattle.plural_map.specs.declared.outcome.Decision.TheVariants as decision
use Rattle.plural_map.specs.Value.{TaskValue}
use Rattle.plural_map.specs.Limits.{IsMap}
use Rattle.plural_map.specs.Order.{order_of}
use Rattle.plural_map.specs.Decisions.{decided}
use Rattle.plural_serial.specs.declared.record_.Record.{Record}
use Rattle.plural_serial.specs.Program.{ProgramValue, task_at}
use Rattle.plural_serial.specs.Serial.{Started, Run, instances, with_task, by_decision, opening, serial_of}
use Rattle.plural_serial.specs.Answer.{record_of}
use Rattle.plural_trace.specs.Rules.{no_entry}
use Rattle.plural_trace.specs.Instances.{StandByInstance}
use Rattle.plural_trace.specs.Verdicts.{records_of}
use Rattle.plural_map.proofs.OrderPlaces.{places_differ}
use Rattle.plural_serial.proofs.Few.{instances_count}
use Rattle.plural_serial.proofs.Turns.{IsPlaced, IsRun, task_run}

-- What stands past the last instance.
no_start : Started
no_start = record { t = 0; k = 0; start = [] }

-- Instances that stand by their numbers after the places at which their tasks begin.
record AreStanding (ss : List Started) : Type 0 where
  pub begin : ℕ → ℕ
  pub each : (i : ℕ) → i < length ss → i ≡ begin (get_or ss i no_start).t + (get_or ss i no_start).k

-- ---- the instances of one task

-- Instance i stands at place i.
record IsInstance (t i : ℕ) (s : Started) : Type 0 where
  own : s.t ≡ t
  number : s.k ≡ i

instances_at : (p : ProgramValue) (t n : ℕ) (m : List ℕ) (i : ℕ) → i < n → IsInstance t i (get_or (instances p t n m).ran i no_start)
unfolding instances
instances_at p t zero m i l = absurd (omega arith)
instances_at p t (suc n) m i l = elim (cases_lt i n) [
  | inl lt ↦
      let h = instances_at p t n m i lt in
      let before : get_or (ran ++ new ∷ []) i no_start ≡ get_or ran i no_start = get_or_append_left ran (new ∷ []) no_start i (omega (arith, long)) in
      record { own = ap (λ (s : Started). s.t) before ∙ h.own; number = ap (λ (s : Started). s.k) before ∙ h.number }
  | inr le ↦
      let last : i ≡ n = omega arith in
      let at : get_or (ran ++ new ∷ []) i no_start ≡ new = get_or_push ran new no_start i (long ∙ sym last) in
      record { own = ap (λ (s : Started). s.t) at; number = ap (λ (s : Started). s.k) at ∙ sym last }
]
  where
    ran : List Started
    ran = (instances p t n m).ran

    new : Started
    new = record { t = t; k = n; start = (instances p t n m).memory }

    long : length ran ≡ n
    long = instances_count p t n m

-- ---- one task more

-- After instances of other tasks those of one task stand by their numbers.
more_standing : (p : ProgramValue) (t n : ℕ) (m : List ℕ) (ss : List Started) → All (λ s. s.t ≡ t → ⊥) ss → AreStanding ss → AreStanding (ss ++ (instances p t n m).ran)
more_standing p t n m ss others h = record {
  begin = begin;
  each = λ i l. elim (cases_lt i (length ss)) [
    | inl lt ↦
        let at : get_or (ss ++ ran) i no_start ≡ get_or ss i no_start = get_or_append_left ss ran no_start i lt in
        h.each i lt ∙ ap (λ n. n + (get_or ss i no_start).k) (sym (old (get_or ss i no_start).t (others i no_start lt))) ∙ ap (λ (s : Started). begin s.t + s.k) (sym at)
    | inr le ↦
        let at : get_or (ss ++ ran) i no_start ≡ get_or ran (i - length ss) no_start = get_or-append_right ss ran (length ss) i no_start refl le in
        let many : length (ss ++ ran) ≡ length ss + n = length-append ss ran ∙ ap (λ n. length ss + n) (instances_count p t n m) in
        let own = instances_at p t n m (i - length ss) (omega arith) in
        let sum : begin (get_or ran (i - length ss) no_start).t + (get_or ran (i - length ss) no_start).k ≡ length ss + (i - length ss) = (λ j. begin (own.own j) + own.number j) ∙ ap (λ n. n + (i - length ss)) new in
        (let back : i ≡ length ss + (i - length ss) = omega arith in back) ∙ sym sum ∙ ap (λ (s : Started). begin s.t + s.k) (sym at)
  ];
}
  where
    ran : List Started
    ran = (instances p t n m).ran

    begin : ℕ → ℕ
    begin u = cond (eqb u t) (length ss) (h.begin u)

    old : (u : ℕ) → (u ≡ t → ⊥) → begin u ≡ h.begin u
    old u other = ap (λ b. cond b (length ss) (h.begin u)) (ne_eqb u t other)

    new : begin t ≡ length ss
    new = ap (λ b. cond b (length ss) (h.begin t)) (eq-eqb t t refl)

-- The instances that ran before the task at a place of the order are of other tasks.
placed_others : (tasks : List TaskValue) (i : ℕ) (ss : List Started) → i < length (order_of tasks) → All (IsPlaced (order_of tasks) i) ss → All (λ s. s.t ≡ slice_index (order_of tasks) i → ⊥) ss
placed_others tasks i ss l h = λ k d lt e. let s = h k d lt in places_differ tasks s.at i s.below l (s.there ∙ e)

decision_standing : (p : ProgramValue) (tasks : List TaskValue) (i : ℕ) (d : Decision) (r : Run) → i < length (order_of tasks) → IsRun (order_of tasks) i r.ran → AreStanding r.ran
    → AreStanding (by_decision d p (slice_index (order_of tasks) i) r).ran
decision_standing p tasks i decision.Fail r l run h = h
decision_standing p tasks i decision.Skip r l run h = h
decision_standing p tasks i decision.Run r l run h =
    let t = slice_index (order_of tasks) i in
    more_standing p t (task_at p t).quota r.memory r.ran (placed_others tasks i r.ran l run.placed) h

task_standing : (p : ProgramValue) (tasks : List TaskValue) (i : ℕ) (r : Run) → i < length (order_of tasks) → IsRun (order_of tasks) i r.ran → AreStanding r.ran
    → AreStanding (with_task p r (slice_index (order_of tasks) i)).ran
unfolding with_task
task_standing p tasks i r l run h = decision_standing p tasks i (decided (task_at p (slice_index (order_of tasks) i)) r.outcomes) r l run h

order_standing : (p : ProgramValue) (tasks : List TaskValue) (fuel i : ℕ) (r : Run) → length (order_of tasks) ≡ fuel + i → IsRun (order_of tasks) i r.ran → AreStanding r.ran
    → AreStanding (fold (with_task p) r (drop i (order_of tasks))).ran
order_standing p tasks zero i r e run h =
    let d : drop i (order_of tasks) ≡ [] = drop_all i (order_of tasks) (omega arith) in
    rw d h
order_standing p tasks (suc fuel) i r e run h =
    let l : i < length (order_of tasks) = omega arith in
    let d : drop i (order_of tasks) ≡ get_or (order_of tasks) i 0 ∷ drop (i + 1) (order_of tasks) = drop_more (order_of tasks) i 0 l in
    rw d
    (order_standing p tasks fuel (i + 1) (with_task p r (slice_index (order_of tasks) i)) (omega arith) (task_run p (order_of tasks) i r l run) (task_standing p tasks i r l run h))

run_standing : (p : ProgramValue) (m : List ℕ) → IsMap p.map → AreStanding (serial_of p m).ran
run_standing p m limits =
    let order = order_of p.map.tasks in
    let whole : AreStanding (fold (with_task p) (opening p m) order).ran = order_standing p p.map.tasks (length order) 0 (opening p m) (omega arith) (record { placed = λ k d lt. absurd (omega arith); turn = tt }) (record { begin = λ t. 0; each = λ i l. absurd (omega arith) }) in
    subst (λ o. AreStanding (fold (with_task p) (opening p m) o).ran) (sym limits.ordered) whole

-- The records of a serial run stand by the numbers of their instances.
pub records_standing : (p : ProgramValue) (m : List ℕ) → IsMap p.map → StandByInstance (records_of p m)
records_standing p m limits =
    let ss = (serial_of p m).ran in
    let h = run_standing p m limits in (
      h.begin,
      (λ i l.
          let lt : i < length ss = omega (arith, length-map ss (record_of p)) in
          h.each i lt ∙ ap (λ (r : Record). h.begin r.t + r.k) (sym (get_or-map (record_of p) ss i no_start no_entry.rec lt))),
    )
