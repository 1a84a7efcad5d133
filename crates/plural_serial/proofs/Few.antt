-- At most 65,536 instances run.
use Rattle.std.proofs.Common.{ℕ, zero, suc, ◌≡◌, ◌+◌, ◌<◌, ◌≤◌, Bool, true, false, ◌||◌, List, [], ◌∷◌, ◌++◌, length, get_or, map, fold, take, sum, Option, refl, ap, sym, ◌∙◌, subst, add-one, arith}
use Rattle.std.specs.Prelude.{slice_index_or}
use Rattle.std.proofs.lemmas.Bool.{eq-eqb, ne_eqb}
use Rattle.std.proofs.lemmas.List.{length-append, length-map, length_push, take_more, take_all}
use Rattle.std.proofs.lemmas.List.Sums.{fold-append, sum_by-cons}
use Rattle.plural_map.specs.declared.outcome.Outcome.{Outcome}
use Rattle.plural_map.specs.declared.outcome.Decision.{Decision}
use Rattle.plural_map.specs.declared.outcome.Decision.TheVariants as decision
use Rattle.plural_map.specs.Value.{TaskValue, no_task}
use Rattle.plural_map.specs.Limits.{IsMap}
use Rattle.plural_map.specs.Decisions.{decided}
use Rattle.plural_map.specs.Order.{is_among, order_of}
use Rattle.plural_map.proofs.OrderLemmas.{order_within, order_new, among_push}
use Rattle.plural_serial.specs.Program.{ProgramValue, task_at}
use Rattle.plural_serial.specs.Serial.{Run, instances, by_decision, with_task, opening, serial_of}
use Rattle.plural_serial.specs.declared.record_.Record.{Record}
use Rattle.plural_serial.specs.Answer.{record_of}
use Rattle.plural_serial.specs.Few.{FewRecords}
use Rattle.plural_serial.proofs.Runs.{IsSoFar}

-- ---- the quotas of the tasks that are done

-- A quota counts if its task is done.
abbrev counted : Bool → ℕ → ℕ
counted true quota = quota
counted false quota = 0

-- The quotas of those of the tasks, numbered from i on, that are done.
abbrev used : List TaskValue → (i : ℕ) → (done : List ℕ) → ℕ
used [] i done = 0
used (task ∷ tasks) i done = counted (is_among i done) task.quota + used tasks (i + 1) done

-- It counts at most itself.
counted_most : (b : Bool) (quota : ℕ) → counted b quota ≤ quota
counted_most true quota = omega arith
counted_most false quota = omega arith

-- They are at most those of all tasks.
used_most : (tasks : List TaskValue) (i : ℕ) (done : List ℕ) → used tasks i done ≤ sum (map (λ t. t.quota) tasks)
used_most [] i done = omega arith
used_most (task ∷ tasks) i done =
    omega (arith, sum_by-cons (λ (n : ℕ). n) task.quota (map (λ t. t.quota) tasks), counted_most (is_among i done) task.quota, used_most tasks (i + 1) done)

-- With another number done, a number is among them if it was before.
among_other : (done : List ℕ) (t u : ℕ) → (t ≡ u → ⊥) → is_among u (done ++ t ∷ []) ≡ is_among u done
among_other done t u n = among_push done t u ∙ rw (ne_eqb t u n) (or_false (is_among u done))
  where
    or_false : (b : Bool) → (b || false) ≡ b
    or_false true = refl
    or_false false = refl

-- A number is among those done once it is one of them.
among_itself : (done : List ℕ) (t : ℕ) → is_among t (done ++ t ∷ []) ≡ true
among_itself done t = among_push done t t ∙ rw (eq-eqb t t refl) (or_true (is_among t done))
  where
    or_true : (b : Bool) → (b || true) ≡ true
    or_true true = refl
    or_true false = refl

-- A number below those of the tasks changes nothing.
used_before : (tasks : List TaskValue) (i t : ℕ) (done : List ℕ) → t < i → used tasks i (done ++ t ∷ []) ≡ used tasks i done
used_before [] i t done h = refl
used_before (task ∷ tasks) i t done h = rw (among_other done t i (λ e. omega arith), used_before tasks (i + 1) t done (omega arith)) refl

-- One more task that wasn't done adds its quota.
used_more : (tasks : List TaskValue) (i j : ℕ) (done : List ℕ) → j < length tasks → is_among (i + j) done ≡ false
    → used tasks i (done ++ (i + j) ∷ []) ≡ used tasks i done + (slice_index_or tasks j no_task).quota
used_more [] i j done h new = absurd (omega arith)
used_more (task ∷ tasks) i zero done h new =
    let e : i + 0 ≡ i = omega arith in
    rw (e, among_itself done i, used_before tasks (i + 1) i done (omega arith), rw e at new) (omega arith)
used_more (task ∷ tasks) i (suc j) done h new =
    let e : i + suc j ≡ (i + 1) + j = omega arith in
    let tail = used_more tasks (i + 1) j done (omega arith) (subst (λ n. is_among n done ≡ false) e new) in
    rw (among_other done (i + suc j) i (λ e. omega arith), e, tail) (omega arith)

-- The same of all tasks.
used_one_more : (tasks : List TaskValue) (t : ℕ) (done : List ℕ) → t < length tasks → is_among t done ≡ false
    → used tasks 0 (done ++ t ∷ []) ≡ used tasks 0 done + (slice_index_or tasks t no_task).quota
used_one_more tasks t done h new =
    let z : 0 + t ≡ t = omega arith in
    subst (λ n. used tasks 0 (done ++ n ∷ []) ≡ used tasks 0 done + (slice_index_or tasks t no_task).quota) z (used_more tasks 0 t done h (subst (λ n. is_among n done ≡ false) (sym z) new))

-- ---- the instances of one task

-- The first n instances of a task are n.
pub instances_count : (p : ProgramValue) (t n : ℕ) (m : List ℕ) → length (instances p t n m).ran ≡ n
unfolding instances
instances_count p t zero m = refl
instances_count p t (suc n) m =
    let earlier = instances_count p t n m in
    length_push (instances p t n m).ran (record { t = t; k = n; start = (instances p t n m).memory }) ∙ omega (arith, earlier)

-- A task adds at most its quota.
task_adds : (p : ProgramValue) (r : Run) (t : ℕ) → length (with_task p r t).ran ≤ length r.ran + (task_at p t).quota
unfolding with_task
task_adds p r t = by (decided (task_at p t) r.outcomes)
  where
    by : (d : Decision) → length (by_decision d p t r).ran ≤ length r.ran + (task_at p t).quota
    by decision.Fail = omega arith
    by decision.Skip = omega arith
    by decision.Run =
        let s = instances p t (task_at p t).quota r.memory in
        omega (arith, length-append r.ran s.ran, instances_count p t (task_at p t).quota r.memory)

-- ---- the whole run

-- The first i tasks of the order run at most the instances of their quotas.
ran_most : (p : ProgramValue) (m : List ℕ) (i : ℕ) → i ≤ length (order_of p.map.tasks)
    → length (fold (with_task p) (opening p m) (take i (order_of p.map.tasks))).ran ≤ used p.map.tasks 0 (take i (order_of p.map.tasks))
ran_most p m zero h = omega arith
ran_most p m (suc i) h =
    let tasks = p.map.tasks in
    let order = order_of tasks in
    let t = get_or order i 0 in
    let done = take i order in
    let within : i < length order = omega arith in
    let more : take (suc i) order ≡ done ++ t ∷ [] = ap (λ n. take n order) (sym (add-one i)) ∙ take_more order i 0 within in
    let run = fold (with_task p) (opening p m) done in
    let adds = task_adds p run t in
    let uses = used_one_more tasks t done (order_within tasks i within) (order_new tasks i within) in
    let earlier = ran_most p m i (omega arith) in
    rw (more, fold-append (with_task p) (opening p m) done (t ∷ [])) (omega (arith, adds, uses, earlier))

-- The law of few records.
pub few_records : FewRecords
few_records p m limits =
    let tasks = p.map.tasks in
    let order = order_of tasks in
    let run : length (serial_of p m).ran ≡ length (fold (with_task p) (opening p m) order).ran = ap (λ (us : List ℕ). length (fold (with_task p) (opening p m) us).ran) limits.ordered in
    let whole : take (length order) order ≡ order = take_all (length order) order (omega arith) in
    let most : length (fold (with_task p) (opening p m) order).ran ≤ used tasks 0 order =
    subst (λ (us : List ℕ). length (fold (with_task p) (opening p m) us).ran ≤ used tasks 0 us) whole (ran_most p m (length order) (omega arith)) in
    omega (arith, run, most, used_most tasks 0 order, limits.few_instances)

-- Once the whole order is done, there are at most 65,536 records.
pub few_so_far : (p : ProgramValue) (m : List ℕ) (items : List ℕ) (i : ℕ) (memory : List ℕ) (outcomes : List (Option Outcome)) (kept : List Record)
    → IsMap p.map → items ≡ p.map.order → length items ≤ i → IsSoFar p (opening p m) (take i items) memory outcomes kept → length kept ≤ 65536
few_so_far p m items i memory outcomes kept limits is h s =
    let whole : take i items ≡ p.map.order = take_all i items h ∙ is in
    let run : length s.ran ≡ length (serial_of p m).ran = ap (λ (r : Run). length r.ran) s.run ∙ ap (λ (us : List ℕ). length (fold (with_task p) (opening p m) us).ran) whole in
    let records : length kept ≡ length s.ran = ap length s.records ∙ length-map s.ran (record_of p) in
    omega (arith, few_records p m limits, run, records)
