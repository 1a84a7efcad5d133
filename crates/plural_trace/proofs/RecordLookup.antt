-- Records and entries by their instances.
use Rattle.std.proofs.Common.{◌≡◌, ℕ, ◌+◌, ◌<◌, Bool, true, false, not, ◌||◌, eqb, cond, List, [], ◌∷◌, length, take, Option, Some, None, refl, arith, eqb-true}
use Rattle.std.specs.List.{All}
use Rattle.std.specs.Option.{option_map_or}
use Rattle.std.proofs.lemmas.Bool.{and_parts, cond-true, cond-false, lt-ltb, le-ltb}
use Rattle.std.proofs.lemmas.List.Elements.{All-head, All-tail}
use Rattle.std.proofs.lemmas.List.Folds.{list_any_more}
use Rattle.plural_serial.specs.declared.record_.Record.{Record}
use Rattle.plural_trace.specs.declared.entry.Entry.{Entry}
use Rattle.plural_trace.specs.Rules.{no_entry, entry_at, is_of, record_for, is_same_record, is_recorded, has_instance, lacks_instance, breaks_records}

-- ---- the rule at a place

-- At an entry's place the rule is broken if its record isn't recorded or its instance was there before.
pub record_test : (rs : List Record) (es : List Entry) (i : ℕ) → i < length es
    → breaks_records rs es i ≡ (not (is_recorded rs (entry_at es i).rec) || has_instance (entry_at es i).rec.t (entry_at es i).rec.k (take i es))
record_test rs es i l = cond-true _ _ _ (lt-ltb i (length es) l)

-- After the last entry the rule is broken if an instance is missing.
pub missing_test : (rs : List Record) (es : List Entry) → breaks_records rs es (length es) ≡ lacks_instance rs es
missing_test rs es = cond-false _ _ _ (le-ltb (length es) (length es) (omega arith))

-- The instances of one more entry.
pub seen_more : (t k : ℕ) (es : List Entry) (i : ℕ) → i < length es → has_instance t k (take (i + 1) es) ≡ (has_instance t k (take i es) || is_of t k (entry_at es i).rec)
seen_more t k es i l = list_any_more (λ (e : Entry). is_of t k e.rec) es i no_entry l

found_task : (t k tasks : ℕ) (rs : List Record) (r : Record) → All (λ (r : Record). r.t < tasks) rs → record_for t k rs ≡ Some r → t < tasks
found_task t k tasks [] r h e = absurd cc
found_task t k tasks (x ∷ xs) r h e = by (is_of t k x) (λ f. found_task t k tasks xs r (All-tail (λ (r : Record). r.t < tasks) x xs h) f) refl e
  where
    by : (b : Bool) → (record_for t k xs ≡ Some r → t < tasks) → is_of t k x ≡ b → cond b (Some x) (record_for t k xs) ≡ Some r → t < tasks
    by true later s f =
        let p = and_parts (eqb x.t t) (eqb x.k k) s in
        let same : x.t ≡ t = eqb-true x.t t p.0 in
        let own : x.t < tasks = All-head (λ (r : Record). r.t < tasks) x xs h in
        omega arith
    by false later s f = later f

-- A recorded record is of a task that the records are of.
pub recorded_task : (tasks : ℕ) (rs : List Record) (r : Record) → All (λ (r : Record). r.t < tasks) rs → is_recorded rs r ≡ true → r.t < tasks
recorded_task tasks rs r h e = by (record_for r.t r.k rs) refl e
  where
    by : (o : Option Record) → record_for r.t r.k rs ≡ o → option_map_or (is_same_record r) o false ≡ true → r.t < tasks
    by None s f = absurd cc
    by (Some x) s f = found_task r.t r.k tasks rs x h s
