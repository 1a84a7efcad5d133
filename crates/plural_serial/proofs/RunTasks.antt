-- The instances that a serial run runs are of the map's tasks.
use Rattle.std.proofs.Common.{ℕ, zero, suc, ◌≡◌, ◌<◌, List, [], ◌∷◌, length, fold, take, Option, refl, sym, subst, arith}
use Rattle.std.specs.List.{All}
use Rattle.std.proofs.lemmas.List.Elements.{All-nil, All-head, All-tail, All-push, All-append, All-weaker, All-map, All-take}
use Rattle.plural_map.proofs.OrderPlaces.{whole_order}
use Rattle.std.proofs.lemmas.List.{take_all}
use Rattle.plural_map.specs.Limits.{IsMap}
use Rattle.plural_map.specs.declared.outcome.Decision.{Decision}
use Rattle.plural_map.specs.declared.outcome.Decision.TheVariants as decision
use Rattle.plural_map.specs.Decisions.{decided}
use Rattle.plural_serial.specs.declared.record_.Record.{Record}
use Rattle.plural_serial.specs.Program.{ProgramValue, task_at}
use Rattle.plural_serial.specs.Serial.{Started, Run, instances, with_task, opening, serial_of}
use Rattle.plural_serial.specs.Stretches.{stretch_of}
use Rattle.plural_serial.specs.Answer.{record_of}
use Rattle.plural_serial.proofs.Stretches.{task_is}
use Rattle.plural_serial.proofs.Runs.{IsSoFar}
use Rattle.plural_map.specs.declared.outcome.Outcome.{Outcome}

-- The instances of a task are of this task.
of_task : (p : ProgramValue) (t n : ℕ) (m : List ℕ) → All (λ (s : Started). s.t ≡ t) (instances p t n m).ran
unfolding instances
of_task p t zero m = All-nil (λ (s : Started). s.t ≡ t)
of_task p t (suc n) m =
    let last : Started = record { t = t; k = n; start = (instances p t n m).memory } in
    All-push (λ (s : Started). s.t ≡ t) (instances p t n m).ran last (of_task p t n m) (refl {a = t})

-- So are those that a decision runs.
stretch_within : (d : Decision) (p : ProgramValue) (t n : ℕ) (m : List ℕ) → t < n → All (λ (s : Started). s.t < n) (stretch_of d p t m)
stretch_within decision.Fail p t n m h = All-nil (λ (s : Started). s.t < n)
stretch_within decision.Skip p t n m h = All-nil (λ (s : Started). s.t < n)
stretch_within decision.Run p t n m h = All-weaker (λ (s : Started). s.t ≡ t) (λ (s : Started). s.t < n) (λ s e. omega (arith, e, h)) _ (of_task p t (task_at p t).quota m)

-- One task more.
task_within : (p : ProgramValue) (t n : ℕ) (r : Run) → t < n → All (λ (s : Started). s.t < n) r.ran → All (λ (s : Started). s.t < n) (with_task p r t).ran
task_within p t n r h a =
    let s = stretch_of (decided (task_at p t) r.outcomes) p t r.memory in
    subst (λ (x : Run). All (λ (i : Started). i.t < n) x.ran) (sym (task_is p r t)) (All-append (λ (i : Started). i.t < n) r.ran s a (stretch_within (decided (task_at p t) r.outcomes) p t n r.memory h))

-- All tasks of a list.
tasks_within : (p : ProgramValue) (n : ℕ) (ts : List ℕ) (r : Run) → All (λ t. t < n) ts → All (λ (s : Started). s.t < n) r.ran → All (λ (s : Started). s.t < n) (fold (with_task p) r ts).ran
tasks_within p n [] r h a = a
tasks_within p n (t ∷ ts) r h a = tasks_within p n ts (with_task p r t) (All-tail (λ (u : ℕ). u < n) t ts h) (task_within p t n r (All-head (λ (u : ℕ). u < n) t ts h) a)

-- The first tasks of the order run instances of the map's tasks alone.
ran_so_far : (p : ProgramValue) (m : List ℕ) (n : ℕ) → IsMap p.map → All (λ (s : Started). s.t < length p.map.tasks) (fold (with_task p) (opening p m) (take n p.map.order)).ran
ran_so_far p m n limits =
    tasks_within p (length p.map.tasks) (take n p.map.order) (opening p m) (All-take (λ (u : ℕ). u < length p.map.tasks) n p.map.order (whole_order p.map limits).within) (All-nil (λ (i : Started). i.t < length p.map.tasks))

-- A serial run runs instances of the map's tasks alone.
pub ran_within : (p : ProgramValue) (m : List ℕ) → IsMap p.map → All (λ (s : Started). s.t < length p.map.tasks) (serial_of p m).ran
ran_within p m limits =
    let order = p.map.order in
    let whole : take (length order) order ≡ order = take_all (length order) order (omega arith) in
    subst (λ (us : List ℕ). All (λ (s : Started). s.t < length p.map.tasks) (fold (with_task p) (opening p m) us).ran) whole (ran_so_far p m (length order) limits)

-- So far the records are of the map's tasks.
pub records_within : (p : ProgramValue) (start m : List ℕ) (items : List ℕ) (n : ℕ) (outcomes : List (Option Outcome)) (records : List Record) → IsMap p.map → items ≡ p.map.order
    → IsSoFar p (opening p start) (take n items) m outcomes records → All (λ (r : Record). r.t < length p.map.tasks) records
records_within p start m items n outcomes records h e s =
    let ran : All (λ (i : Started). i.t < length p.map.tasks) s.ran =
    subst (λ (x : Run). All (λ (i : Started). i.t < length p.map.tasks) x.ran) (sym s.run)
    (subst (λ (us : List ℕ). All (λ (i : Started). i.t < length p.map.tasks) (fold (with_task p) (opening p start) (take n us)).ran) (sym e) (ran_so_far p start n h))
    in
    rw s.records (All-map (λ (r : Record). r.t < length p.map.tasks) (record_of p) s.ran ran)
