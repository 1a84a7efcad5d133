-- The log of a serial run is legal.
use Rattle.std.proofs.Common.{◌≡◌, ℕ, zero, suc, ◌+◌, ◌-◌, ◌*◌, ◌<◌, ◌≤◌, Bool, true, false, not, ◌||◌, ◌&&◌, eqb, ltb, List, [], ◌∷◌, length, take, get_or, Some, refl, sym, ap, subst, ◌∙◌, arith, eqb-true, inl, inr}
use Rattle.std.specs.List.{list_any}
use Rattle.std.specs.Option.{option_map_or}
use Rattle.std.proofs.lemmas.Bool.{cases_lt, and_parts, eq-eqb, lt-ltb}
use Rattle.std.proofs.lemmas.List.{length-map}
use Rattle.std.proofs.lemmas.List.Folds.{list_any_none, list_any_at}
use Rattle.plural_map.specs.Value.{TaskValue, MapValue}
use Rattle.plural_reach.specs.Chains.{Before}
use Rattle.plural_serial.specs.declared.record_.Record.{Record}
use Rattle.plural_serial.specs.Answer.{AnswerValue}
use Rattle.plural_trace.specs.declared.entry.Entry.{Entry}
use Rattle.plural_trace.specs.Rules.{no_entry, entry_at, is_of, record_for, is_same_record, is_recorded, has_instance, lacks_instance, breaks_records, is_drawn, breaks_tickets, BreaksOrder, is_busy, overlaps, breaks_cores, breaks_rise}
use Rattle.plural_trace.specs.SerialLog.{serial_entry, serial_entries, serial_log}
use Rattle.plural_trace.specs.Verdicts.{Expected, expected_by, Records, Tickets, Order, Cores, Rise, Outcomes, Words, IsLegal, NoneFails}
use Rattle.plural_trace.specs.Laws.{SerialIsLegal}
use Rattle.plural_trace.proofs.RecordLookup.{record_test, missing_test}
use Rattle.plural_trace.proofs.Legality.{same_record, outcomes_fine, words_fine, legal_from_none}
use Rattle.plural_trace.proofs.SerialResults.{expected_same}
use Rattle.plural_trace.proofs.RecordOrder.{IsLater, InOrder, records_in_order}

no_record : Record
no_record = no_entry.rec

-- ---- the entries of a serial log

-- There is an entry for each record.
pub serial_long : (j : ℕ) (rs : List Record) → length (serial_entries j rs) ≡ length rs
serial_long j [] = refl
serial_long j (r ∷ rs) = let h = serial_long (j + 1) rs in omega arith

-- The entry at a place is that of the record there.
pub serial_at : (j : ℕ) (rs : List Record) (i : ℕ) → i < length rs → entry_at (serial_entries j rs) i ≡ serial_entry (j + i) (get_or rs i no_entry.rec)
serial_at j [] i l = absurd (omega arith)
serial_at j (r ∷ rs) zero l = ap (λ n. serial_entry n r) (let z : j ≡ j + 0 = omega arith in z)
serial_at j (r ∷ rs) (suc i) l = serial_at (j + 1) rs i (omega arith) ∙ ap (λ n. serial_entry n (get_or rs i no_entry.rec)) (let z : j + 1 + i ≡ j + suc i = omega arith in z)

serial_take : (j : ℕ) (rs : List Record) (i : ℕ) → take i (serial_entries j rs) ≡ serial_entries j (take i rs)
serial_take j rs zero = refl
serial_take j [] (suc i) = refl
serial_take j (r ∷ rs) (suc i) = ap (λ (es : List Entry). serial_entry j r ∷ es) (serial_take (j + 1) rs i)

long_take : (rs : List Record) (i : ℕ) → i < length rs → length (take i rs) ≡ i
long_take rs zero l = refl
long_take [] (suc i) l = absurd (omega arith)
long_take (r ∷ rs) (suc i) l = let h = long_take rs i (omega arith) in omega arith

-- ---- rule 1

of_itself : (r : Record) → is_of r.t r.k r ≡ true
of_itself r = rw (eq-eqb r.t r.t refl, eq-eqb r.k r.k refl) refl

other_instance : (tasks : List TaskValue) (r s : Record) → IsLater tasks r s → is_of s.t s.k r ≡ false
other_instance tasks r s h = by (is_of s.t s.k r) refl
  where
    by : (b : Bool) → is_of s.t s.k r ≡ b → b ≡ false
    by true e = let p = and_parts (eqb r.t s.t) (eqb r.k s.k) e in absurd (h.other (eqb-true r.t s.t p.0) (eqb-true r.k s.k p.1))
    by false e = refl

record_back : (tasks : List TaskValue) (rs : List Record) (i : ℕ) (d : Record) → InOrder tasks rs → i < length rs → record_for (get_or rs i d).t (get_or rs i d).k rs ≡ Some (get_or rs i d)
record_back tasks [] i d h l = absurd (omega arith)
record_back tasks (r ∷ rs) zero d h l = rw (of_itself r) refl
record_back tasks (r ∷ rs) (suc i) d h l = rw (other_instance tasks r (get_or rs i d) (h.1 i d (omega arith))) (record_back tasks rs i d h.2 (omega arith))

earlier_none : (tasks : List TaskValue) (rs : List Record) (i : ℕ) (d : Record) → InOrder tasks rs → i < length rs → list_any (is_of (get_or rs i d).t (get_or rs i d).k) (take i rs) ≡ false
earlier_none tasks rs zero d h l = refl
earlier_none tasks [] (suc i) d h l = absurd (omega arith)
earlier_none tasks (r ∷ rs) (suc i) d h l = rw (other_instance tasks r (get_or rs i d) (h.1 i d (omega arith))) (earlier_none tasks rs i d h.2 (omega arith))

has_serial : (t k j : ℕ) (rs : List Record) → has_instance t k (serial_entries j rs) ≡ list_any (is_of t k) rs
has_serial t k j [] = refl
has_serial t k j (r ∷ rs) = ap (λ b. is_of t k r || b) (has_serial t k (j + 1) rs)

recorded_true : (tasks : List TaskValue) (rs : List Record) (i : ℕ) (d : Record) → InOrder tasks rs → i < length rs → is_recorded rs (get_or rs i d) ≡ true
recorded_true tasks rs i d h l = ap (λ o. option_map_or (is_same_record (get_or rs i d)) o false) (record_back tasks rs i d h l) ∙ same_record (get_or rs i d)

records_fine : (tasks : List TaskValue) (rs : List Record) (i : ℕ) → InOrder tasks rs → i < length rs + 1 → breaks_records rs (serial_entries 0 rs) i ≡ false
records_fine tasks rs i h l = elim (cases_lt i (length rs)) [
  | inl lt ↦
      let es = serial_entries 0 rs in
      let r = get_or rs i no_entry.rec in
      let at : entry_at es i ≡ serial_entry (0 + i) r = serial_at 0 rs i lt in
      let test = record_test rs es i (rw (serial_long 0 rs) lt) in
      let seen : has_instance r.t r.k (take i es) ≡ false = ap (has_instance r.t r.k) (serial_take 0 rs i) ∙ has_serial r.t r.k 0 (take i rs) ∙ earlier_none tasks rs i no_entry.rec h lt in
      test ∙ rw at (rw (recorded_true tasks rs i no_entry.rec h lt, seen) refl)
  | inr le ↦
      let es = serial_entries 0 rs in
      let whole : i ≡ length es = let n = serial_long 0 rs in omega arith in
      rw whole (missing_test rs es ∙ lacks_none rs)
]
  where
    lacks_none : (rs : List Record) → lacks_instance rs (serial_entries 0 rs) ≡ false
    lacks_none rs =
        list_any_none (λ r. not (has_instance r.t r.k (serial_entries 0 rs))) rs
        (λ k d lt. ap not (has_serial (get_or rs k d).t (get_or rs k d).k 0 rs ∙ list_any_at (is_of (get_or rs k d).t (get_or rs k d).k) rs k d lt (of_itself (get_or rs k d))))

-- ---- rules 2 to 5

apart_from : (a x : ℕ) → a < x → eqb a x ≡ false
apart_from a x l = by (eqb a x) refl
  where
    by : (b : Bool) → eqb a x ≡ b → b ≡ false
    by true e = absurd (let s : a ≡ x = eqb-true a x e in let f : ⊥ = omega arith in f)
    by false e = refl

drawn_none : (j : ℕ) (rs : List Record) (x : ℕ) → 2 * (j + length rs) ≤ x → is_drawn x (serial_entries j rs) ≡ false
drawn_none j [] x l = refl
drawn_none j (r ∷ rs) x l = rw (apart_from (2 * j) x (omega arith), apart_from (2 * j + 1) x (omega arith)) (drawn_none (j + 1) rs x (omega arith))

tickets_fine : (rs : List Record) (i : ℕ) → i < length rs → breaks_tickets (serial_entries 0 rs) i ≡ false
tickets_fine rs i l =
    let n = long_take rs i l in
    rw (serial_at 0 rs i l, serial_take 0 rs i, serial_long 0 rs)
    (rw (lt-ltb (2 * (0 + i)) (2 * (0 + i) + 1) (omega arith), lt-ltb (2 * (0 + i) + 1) (2 * length rs) (omega arith), drawn_none 0 (take i rs) (2 * (0 + i)) (omega arith), drawn_none 0 (take i rs) (2 * (0 + i) + 1) (omega arith)) refl)

free_between : (tasks : List TaskValue) (rs : List Record) (i k : ℕ) (d : Record) → InOrder tasks rs → i ≤ k → k < length rs → Before tasks (get_or rs k d).t (get_or rs i d).t → ⊥
free_between tasks [] i k d h le l b = omega arith
free_between tasks (r ∷ rs) zero zero d h le l b = h.0 b
free_between tasks (r ∷ rs) zero (suc k) d h le l b = (h.1 k d (omega arith)).free b
free_between tasks (r ∷ rs) (suc i) zero d h le l b = omega arith
free_between tasks (r ∷ rs) (suc i) (suc k) d h le l b = free_between tasks rs i k d h.2 (omega arith) (omega arith) b

order_fine : (tasks : List TaskValue) (rs : List Record) (i : ℕ) → InOrder tasks rs → i < length rs → BreaksOrder tasks (serial_entries 0 rs) i → ⊥
order_fine tasks rs i h l b =
    let late : b.late < length rs = let t = b.there in omega (arith, serial_long 0 rs) in
    let own = serial_at 0 rs i l in
    let other = serial_at 0 rs b.late late in
    let ends = rw (own, other) at b.ends in
    free_between tasks rs i b.late no_entry.rec h (omega arith) late (rw (own, other) at b.before)

busy_none : (f : Entry) (j : ℕ) (rs : List Record) → 2 * (j + length rs) ≤ f.start → is_busy f (serial_entries j rs) ≡ false
busy_none f j [] l = refl
busy_none f j (r ∷ rs) l = by (eqb 0 f.core) (busy_none f (j + 1) rs (omega arith))
  where
    by : (b : Bool) → is_busy f (serial_entries (j + 1) rs) ≡ false → ((b && overlaps (serial_entry j r) f) || is_busy f (serial_entries (j + 1) rs)) ≡ false
    by true k = rw (lt-ltb (2 * j + 1) f.start (omega arith)) k
    by false k = k

cores_fine : (rs : List Record) (i : ℕ) → i < length rs → breaks_cores 1 (serial_entries 0 rs) i ≡ false
cores_fine rs i l =
    let n = long_take rs i l in
    rw (serial_at 0 rs i l, serial_take 0 rs i) (busy_none (serial_entry (0 + i) (get_or rs i no_entry.rec)) 0 (take i rs) (omega arith))

rise_fine : (rs : List Record) (i : ℕ) → i < length rs → breaks_rise (serial_entries 0 rs) i ≡ false
rise_fine rs zero l = refl
rise_fine rs (suc i) l =
    let back : suc i - 1 ≡ i = omega arith in
    rw (serial_at 0 rs (suc i) l, back, serial_at 0 rs i (omega arith)) (rw (lt-ltb (2 * (0 + i)) (2 * (0 + suc i)) (omega arith)) (after_false (ltb 0 (suc i))))
  where
    after_false : (b : Bool) → (b && false) ≡ false
    after_false true = refl
    after_false false = refl

-- ---- all seven

breaks_not : {b : Bool} → b ≡ false → b ≡ true → ⊥
breaks_not f t = let e : true ≡ false = sym t ∙ f in cc

none_fails : (m : MapValue) (a : AnswerValue) → InOrder m.tasks a.records → NoneFails (expected_by m a) (serial_log a) a.image
none_fails m a h Records i f = breaks_not (records_fine m.tasks a.records i h (let l = f.0 in omega (arith, serial_long 0 a.records))) f.1
none_fails m a h Tickets i f = breaks_not (tickets_fine a.records i (let l = f.0 in omega (arith, serial_long 0 a.records))) f.1
none_fails m a h Order i f = order_fine m.tasks a.records i h (let l = f.0 in omega (arith, serial_long 0 a.records)) f.1
none_fails m a h Cores i f = breaks_not (cores_fine a.records i (let l = f.0 in omega (arith, serial_long 0 a.records))) f.1
none_fails m a h Rise i f = breaks_not (rise_fine a.records i (let l = f.0 in omega (arith, serial_long 0 a.records))) f.1
none_fails m a h Outcomes i f = breaks_not (outcomes_fine a.outcomes i (let l = f.0 in omega (arith, length-map a.outcomes (λ o. Some o)))) f.1
none_fails m a h Words i f = breaks_not (words_fine a.image i) f.1

-- The log of a serial run is legal, with its last memory.
pub serial_is_legal : SerialIsLegal
serial_is_legal p m a limits run =
    subst (λ (x : Expected). IsLegal x (serial_log a) a.image) (expected_same p m a run) (legal_from_none (expected_by p.map a) (serial_log a) a.image (sym (length-map a.outcomes (λ o. Some o))) refl (none_fails p.map a (rw run.records (records_in_order p m limits))))
