-- Records that stand by the numbers of their instances, and where each is found.
use Rattle.std.proofs.Common.{◌≡◌, ℕ, zero, suc, ◌+◌, ◌<◌, ◌≤◌, Bool, true, false, not, ◌||◌, ◌&&◌, eqb, cond, List, [], ◌∷◌, length, take, set, get_or, Option, Some, None, refl, sym, ap, ◌∙◌, arith, eqb-true, inl, inr}
use Rattle.std.specs.List.{All, list_all}
use Rattle.std.specs.Option.{option_map_or}
use Rattle.std.proofs.lemmas.Bool.{and_parts, cases_eq, eq-eqb}
use Rattle.std.proofs.lemmas.List.{get_or-set_same, get_or-set_other, take_all}
use Rattle.plural_serial.specs.declared.record_.Record.{Record}
use Rattle.plural_trace.specs.declared.entry.Entry.{Entry}
use Rattle.plural_trace.specs.Rules.{entry_at, is_of, record_for, is_same_end, is_same_record, is_recorded, has_instance, lacks_instance, breaks_records}
use Rattle.plural_trace.specs.Instances.{record_at, StandFrom}
use Rattle.plural_trace.proofs.RecordLookup.{record_test, missing_test, recorded_task, seen_more}

-- ---- one instance, one place

-- Two places of one instance are one.
one_place : (b : ℕ → ℕ) (rs : List Record) (i j : ℕ) → StandFrom b rs → i < length rs → j < length rs → (record_at rs i).t ≡ (record_at rs j).t → (record_at rs i).k ≡ (record_at rs j).k → i ≡ j
one_place b rs i j h li lj t k = h i li ∙ (λ n. b (t n) + k n) ∙ sym (h j lj)

-- The instances of two records that are the same are the same.
record IsSameInstance (r s : Record) : Type 0 where
  t : r.t ≡ s.t
  k : r.k ≡ s.k

same_instance : (r s : Record) → is_same_record r s ≡ true → IsSameInstance r s
same_instance r s e =
    let a = and_parts (eqb r.t s.t && eqb r.k s.k && is_same_end r.«end» s.«end» && eqb r.instructions s.instructions && eqb r.loads s.loads && eqb r.misses s.misses) (eqb r.stores s.stores) e in
    let b = and_parts (eqb r.t s.t && eqb r.k s.k && is_same_end r.«end» s.«end» && eqb r.instructions s.instructions && eqb r.loads s.loads) (eqb r.misses s.misses) a.0 in
    let c = and_parts (eqb r.t s.t && eqb r.k s.k && is_same_end r.«end» s.«end» && eqb r.instructions s.instructions) (eqb r.loads s.loads) b.0 in
    let d = and_parts (eqb r.t s.t && eqb r.k s.k && is_same_end r.«end» s.«end») (eqb r.instructions s.instructions) c.0 in
    let f = and_parts (eqb r.t s.t && eqb r.k s.k) (is_same_end r.«end» s.«end») d.0 in
    let g = and_parts (eqb r.t s.t) (eqb r.k s.k) f.0 in
    record { t = eqb-true r.t s.t g.0; k = eqb-true r.k s.k g.1 }

-- A record that a search finds is at a place.
record IsFoundAt (t k : ℕ) (rs : List Record) (r : Record) : Type 0 where
  at : ℕ
  within : at < length rs
  there : record_at rs at ≡ r
  own : is_of t k r ≡ true

found_at : (t k : ℕ) (rs : List Record) (r : Record) → record_for t k rs ≡ Some r → IsFoundAt t k rs r
found_at t k [] r e = absurd cc
found_at t k (x ∷ xs) r e = by (is_of t k x) (λ f. found_at t k xs r f) refl e
  where
    by : (b : Bool) → (record_for t k xs ≡ Some r → IsFoundAt t k xs r) → is_of t k x ≡ b → cond b (Some x) (record_for t k xs) ≡ Some r → IsFoundAt t k (x ∷ xs) r
    by true later s f = let same : x ≡ r = cc in record { at = 0; within = omega arith; there = same; own = ap (is_of t k) (sym same) ∙ s }
    by false later s f = let p = later f in let w = p.within in record { at = suc p.at; within = omega arith; there = p.there; own = p.own }

-- A search for the instance of a record finds one.
none_missed : (t k : ℕ) (rs : List Record) (i : ℕ) → i < length rs → is_of t k (record_at rs i) ≡ true → record_for t k rs ≡ None → ⊥
none_missed t k [] i l h e = omega arith
none_missed t k (x ∷ xs) zero l h e = by (is_of t k x) h e
  where
    by : (b : Bool) → b ≡ true → cond b (Some x) (record_for t k xs) ≡ None → ⊥
    by true h e = cc
    by false h e = cc
none_missed t k (x ∷ xs) (suc i) l h e = by (is_of t k x) (none_missed t k xs i (omega arith) h) e
  where
    by : (b : Bool) → (record_for t k xs ≡ None → ⊥) → cond b (Some x) (record_for t k xs) ≡ None → ⊥
    by true later e = cc
    by false later e = later e

-- What a recorded record says of the place that its instance has.
record IsKept (b : ℕ → ℕ) (rs : List Record) (r : Record) : Type 0 where
  within : b r.t + r.k < length rs
  same : is_same_record r (record_at rs (b r.t + r.k)) ≡ true

kept_there : (b : ℕ → ℕ) (rs : List Record) (r : Record) → StandFrom b rs → is_recorded rs r ≡ true → IsKept b rs r
kept_there b rs r h e = by (record_for r.t r.k rs) refl e
  where
    by : (o : Option Record) → record_for r.t r.k rs ≡ o → option_map_or (is_same_record r) o false ≡ true → IsKept b rs r
    by None s f = absurd cc
    by (Some x) s f =
        let p = found_at r.t r.k rs x s in
        let same = same_instance r x f in
        let there : p.at ≡ b r.t + r.k = h p.at p.within ∙ (λ n. b (p.there n).t + (p.there n).k) ∙ sym (λ n. b (same.t n) + same.k n) in
        let w = p.within in
        record { within = omega arith; same = ap (λ n. is_same_record r (record_at rs n)) (sym there) ∙ ap (is_same_record r) p.there ∙ f }

-- A record that is the same as that at a place is recorded.
recorded_there : (b : ℕ → ℕ) (rs : List Record) (r : Record) (i : ℕ) → StandFrom b rs → i < length rs → is_same_record r (record_at rs i) ≡ true → is_recorded rs r ≡ true
recorded_there b rs r i h l e = by (record_for r.t r.k rs) refl
  where
    same : IsSameInstance r (record_at rs i)
    same = same_instance r (record_at rs i) e

    own : is_of r.t r.k (record_at rs i) ≡ true
    own = rw (eq-eqb (record_at rs i).t r.t (sym same.t), eq-eqb (record_at rs i).k r.k (sym same.k)) refl

    by : (o : Option Record) → record_for r.t r.k rs ≡ o → option_map_or (is_same_record r) o false ≡ true
    by None s = absurd (none_missed r.t r.k rs i l own s)
    by (Some x) s =
        let p = found_at r.t r.k rs x s in
        let q = and_parts (eqb x.t r.t) (eqb x.k r.k) p.own in
        let t : (record_at rs p.at).t ≡ (record_at rs i).t = ap (λ (y : Record). y.t) p.there ∙ eqb-true x.t r.t q.0 ∙ same.t in
        let k : (record_at rs p.at).k ≡ (record_at rs i).k = ap (λ (y : Record). y.k) p.there ∙ eqb-true x.k r.k q.1 ∙ same.k in
        let one : p.at ≡ i = one_place b rs p.at i h p.within l t k in
        ap (is_same_record r) (sym p.there ∙ ap (record_at rs) one) ∙ e

not_true : (c : Bool) → (c ≡ true → ⊥) → c ≡ false
not_true true h = absurd (h refl)
not_true false h = refl

-- A record of a task that none of these is of isn't recorded.
pub not_of_them : (tasks : ℕ) (rs : List Record) (r : Record) → All (λ (r : Record). r.t < tasks) rs → tasks ≤ r.t → is_recorded rs r ≡ false
not_of_them tasks rs r within le = not_true (is_recorded rs r) (λ e. let own = recorded_task tasks rs r within e in omega arith)

-- A record that isn't at its instance's place isn't recorded.
pub not_there : (b : ℕ → ℕ) (rs : List Record) (r : Record) → StandFrom b rs → (b r.t + r.k < length rs → is_same_record r (record_at rs (b r.t + r.k)) ≡ true → ⊥) → is_recorded rs r ≡ false
not_there b rs r h other = not_true (is_recorded rs r) (λ e. let kept = kept_there b rs r h e in other kept.within kept.same)

-- ---- the instances that were seen

-- Each record's place tells whether the first i entries have its instance.
abbrev pub Tells : List Record → List Entry → (i : ℕ) → List Bool → Type 0
Tells rs es i seen = (p : ℕ) → p < length rs → get_or seen p false ≡ has_instance (record_at rs p).t (record_at rs p).k (take i es)

-- The place of one more entry's record.
pub tells_more : (b : ℕ → ℕ) (rs : List Record) (es : List Entry) (i p : ℕ) (seen : List Bool) → StandFrom b rs → length seen ≡ length rs → i < length es → p < length rs
    → is_same_record (entry_at es i).rec (record_at rs p) ≡ true → Tells rs es i seen → Tells rs es (i + 1) (set seen p true)
tells_more b rs es i p seen h long li lp e tells = λ q lq. elim (cases_eq q p) [
  | inl here ↦
      rw here
      (get_or-set_same seen p true false (omega arith)
      ∙ sym (seen_more (record_at rs p).t (record_at rs p).k es i li ∙ ap (λ c. has_instance (record_at rs p).t (record_at rs p).k (take i es) || c) own ∙ or_true _))
  | inr other ↦
      get_or-set_other seen p q true false other
      ∙ tells q lq ∙ sym (or_false _) ∙ ap (λ c. has_instance (record_at rs q).t (record_at rs q).k (take i es) || c) (sym (apart q lq other))
      ∙ sym (seen_more (record_at rs q).t (record_at rs q).k es i li)
]
  where
    same : IsSameInstance (entry_at es i).rec (record_at rs p)
    same = same_instance (entry_at es i).rec (record_at rs p) e

    own : is_of (record_at rs p).t (record_at rs p).k (entry_at es i).rec ≡ true
    own = rw (eq-eqb (entry_at es i).rec.t (record_at rs p).t same.t, eq-eqb (entry_at es i).rec.k (record_at rs p).k same.k) refl

    or_true : (c : Bool) → (c || true) ≡ true
    or_true true = refl
    or_true false = refl

    or_false : (c : Bool) → (c || false) ≡ c
    or_false true = refl
    or_false false = refl

    apart : (q : ℕ) → q < length rs → (q ≡ p → ⊥) → is_of (record_at rs q).t (record_at rs q).k (entry_at es i).rec ≡ false
    apart q lq other = by (is_of (record_at rs q).t (record_at rs q).k (entry_at es i).rec) refl
      where
        by : (c : Bool) → is_of (record_at rs q).t (record_at rs q).k (entry_at es i).rec ≡ c → c ≡ false
        by true f =
            let g = and_parts (eqb (entry_at es i).rec.t (record_at rs q).t) (eqb (entry_at es i).rec.k (record_at rs q).k) f in
            let t : (record_at rs q).t ≡ (record_at rs p).t = sym (eqb-true _ _ g.0) ∙ same.t in
            let k : (record_at rs q).k ≡ (record_at rs p).k = sym (eqb-true _ _ g.1) ∙ same.k in
            absurd (other (one_place b rs q p h lq lp t k))
        by false f = refl

-- If each place tells, one that no entry was seen of is missing.
lacks_when : (rs : List Record) (es : List Entry) (seen : List Bool) → length seen ≡ length rs
    → ((p : ℕ) → p < length rs → get_or seen p false ≡ has_instance (record_at rs p).t (record_at rs p).k es) → lacks_instance rs es ≡ not (list_all (λ s. s) seen)
lacks_when [] es [] n h = refl
lacks_when [] es (s ∷ ss) n h = absurd (omega arith)
lacks_when (r ∷ rs) es [] n h = absurd (omega arith)
lacks_when (r ∷ rs) es (s ∷ ss) n h =
    ap (λ c. not c || lacks_instance rs es) (sym (h 0 (omega arith))) ∙ ap (λ c. not s || c) (lacks_when rs es ss (omega arith) (λ p l. h (suc p) (omega arith))) ∙ turned s (list_all (λ s. s) ss)
  where
    turned : (a b : Bool) → (not a || not b) ≡ not (a && b)
    turned true b = refl
    turned false b = refl

-- ---- the rule at a place

-- An entry whose record isn't recorded breaks the rule.
pub breaks_when : (rs : List Record) (es : List Entry) (i : ℕ) → i < length es → is_recorded rs (entry_at es i).rec ≡ false → breaks_records rs es i ≡ true
breaks_when rs es i l e = record_test rs es i l ∙ rw e refl

-- An entry whose record stands at a place breaks the rule if the place tells that its instance was seen.
pub breaks_by : (b : ℕ → ℕ) (rs : List Record) (es : List Entry) (i p : ℕ) (seen : List Bool) → StandFrom b rs → i < length es → p < length rs
    → is_same_record (entry_at es i).rec (record_at rs p) ≡ true → Tells rs es i seen → breaks_records rs es i ≡ get_or seen p false
breaks_by b rs es i p seen h li lp e tells =
    let same = same_instance (entry_at es i).rec (record_at rs p) e in
    record_test rs es i li ∙ ap (λ c. not c || has_instance (entry_at es i).rec.t (entry_at es i).rec.k (take i es)) (recorded_there b rs (entry_at es i).rec p h lp e)
    ∙ (λ n. has_instance (same.t n) (same.k n) (take i es)) ∙ sym (tells p lp)

-- After the last entry the rule is broken if some place wasn't seen.
pub breaks_after : (rs : List Record) (es : List Entry) (i : ℕ) (seen : List Bool) → length seen ≡ length rs → length es ≤ i → Tells rs es i seen → breaks_records rs es (length es) ≡ not (list_all (λ s. s) seen)
breaks_after rs es i seen long le tells =
    missing_test rs es ∙ lacks_when rs es seen long (λ p l. tells p l ∙ ap (has_instance (record_at rs p).t (record_at rs p).k) (take_all i es le))
