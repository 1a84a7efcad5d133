-- A log is legal exactly if no rule fails at any place.
use Rattle.std.proofs.Common.{◌≡◌, ◌≢◌, ℕ, zero, suc, ◌+◌, ◌-◌, ◌*◌, ◌<◌, ◌≤◌, Bool, true, false, not, ◌||◌, ◌&&◌, eqb, ltb, List, [], ◌∷◌, length, map, take, get_or, Option, Some, None, refl, sym, ap, subst, ◌∙◌, arith, inl, inr, ⊎_elim}
use Rattle.std.specs.Prelude.{slice_index}
use Rattle.std.specs.List.{All, AllPairs}
use Rattle.std.specs.Option.{option_map_or}
use Rattle.std.proofs.lemmas.Bool.{cases_lt, and_parts, and_cases, or_parts, eq-eqb, ne_eqb, eqb-true, lt-ltb, not-false, false_from_ne_true, true≢false}
use Rattle.std.proofs.lemmas.List.{length-map, get_or_default, ext_get_or}
use Rattle.std.proofs.lemmas.List.Elements.{All-from_get_or, All-nil, All-cons}
use Rattle.std.proofs.lemmas.List.Folds.{list_any_none, Any-from_list_any, list_any-from_Any}
use Rattle.plural_core.specs.declared.end.End.{End}
use Rattle.plural_core.specs.declared.end.End.TheVariants as end
use Rattle.plural_map.specs.declared.outcome.Outcome.{Outcome}
use Rattle.plural_map.specs.declared.outcome.Outcome.TheVariants as outcome
use Rattle.plural_map.specs.Value.{TaskValue}
use Rattle.plural_reach.specs.Chains.{Before}
use Rattle.plural_serial.specs.declared.record_.Record.{Record}
use Rattle.plural_trace.specs.declared.entry.Entry.{Entry}
use Rattle.plural_trace.specs.Logs.{LogValue}
use Rattle.plural_trace.specs.Rules.{no_entry, entry_at, is_of, record_for, is_same_end, is_same_record, is_recorded, has_instance, lacks_instance, breaks_records, is_ticket, is_drawn, breaks_tickets, BreaksOrder, is_busy, overlaps, breaks_cores, breaks_rise, is_same_outcome, is_outcome, breaks_outcomes, breaks_words}
use Rattle.plural_trace.specs.Legality.{IsOther, HasEntry, HasRecords, OtherTickets, HasTickets, KeepsOrder, Apart, HasCores, Rises}
use Rattle.plural_trace.specs.Verdicts.{Expected, Records, Tickets, Order, Cores, Rise, Outcomes, Words, NoneFails, IsLegal}
use Rattle.plural_trace.specs.Laws.{LegalExactly, YesExactly}
use Rattle.plural_trace.specs.declared.verdict.Verdict.TheVariants.{Yes, No}
use Rattle.plural_trace.proofs.RecordLookup.{record_test, missing_test}
use Rattle.plural_trace.proofs.SerialResults.{outcome_test}
use Rattle.plural_trace.proofs.EntryPlaces.{any_first, none_first}
use Rattle.plural_trace.proofs.TicketLemmas.{below_when, four_false, fits_when}
use Rattle.plural_trace.proofs.CoreSweep.{apart_free, busy_at, free_at}

-- ---- places of entries

-- What holds at each two places in turn holds of all pairs.
pairs_from : (R : Entry → Entry → Type 0) (es : List Entry) → ((i j : ℕ) → i < j → j < length es → R (entry_at es i) (entry_at es j)) → AllPairs R es
pairs_from R es h i j d lt l =
    subst (λ (e : Entry). R e (get_or es j d)) (get_or_default es i no_entry d (omega arith)) (subst (λ (f : Entry). R (entry_at es i) f) (get_or_default es j no_entry d l) (h i j lt l))

-- What isn't so is false, if it leads to nothing.
refuted : (b : Bool) → (b ≡ true → ⊥) → b ≡ false
refuted b h = false_from_ne_true b h

-- ---- records

same_end : (e : End) → is_same_end e e ≡ true
same_end end.Code0 = refl
same_end end.Code1 = refl
same_end (end.Trap cause pc) = rw (eq-eqb cause cause refl, eq-eqb pc pc refl) refl
same_end end.Exhausted = refl

-- A record is the same as itself.
pub same_record : (r : Record) → is_same_record r r ≡ true
same_record r =
    rw (eq-eqb r.t r.t refl, eq-eqb r.k r.k refl, same_end r.«end», eq-eqb r.instructions r.instructions refl, eq-eqb r.loads r.loads refl, eq-eqb r.misses r.misses refl, eq-eqb r.stores r.stores refl) refl

end_is : (e f : End) → is_same_end e f ≡ true → e ≡ f
end_is end.Code0 end.Code0 h = refl
end_is end.Code1 end.Code1 h = refl
end_is (end.Trap cause pc) (end.Trap other at) h =
    let s = and_parts (eqb cause other) (eqb pc at) h in
    let a = eqb-true cause other s.0 in
    let b = eqb-true pc at s.1 in
    λ i. end.Trap (a i) (b i)
end_is end.Exhausted end.Exhausted h = refl
end_is _ _ h = absurd cc

record_is : (r s : Record) → is_same_record r s ≡ true → r ≡ s
record_is r s h =
    let a = and_parts _ _ h in
    let b = and_parts _ _ a.0 in
    let c = and_parts _ _ b.0 in
    let d = and_parts _ _ c.0 in
    let e = and_parts _ _ d.0 in
    let f = and_parts _ _ e.0 in
    let t = eqb-true r.t s.t f.0 in
    let k = eqb-true r.k s.k f.1 in
    let x = end_is r.«end» s.«end» e.1 in
    let n = eqb-true r.instructions s.instructions d.1 in
    let l = eqb-true r.loads s.loads c.1 in
    let m = eqb-true r.misses s.misses b.1 in
    let w = eqb-true r.stores s.stores a.1 in
    λ i. record { t = t i; k = k i; «end» = x i; instructions = n i; loads = l i; misses = m i; stores = w i }

recorded_is : (rs : List Record) (r : Record) → is_recorded rs r ≡ true → record_for r.t r.k rs ≡ Some r
recorded_is rs r h = by (record_for r.t r.k rs) h
  where
    by : (o : Option Record) → option_map_or (is_same_record r) o false ≡ true → o ≡ Some r
    by None e = absurd cc
    by (Some s) e = ap Some (sym (record_is r s e))

of_instance : (t k : ℕ) (r : Record) → is_of t k r ≡ true → (r.t ≡ t) × (r.k ≡ k)
of_instance t k r h = let p = and_parts (eqb r.t t) (eqb r.k k) h in (eqb-true r.t t p.0, eqb-true r.k k p.1)

is_instance : (t k : ℕ) (r : Record) → r.t ≡ t → r.k ≡ k → is_of t k r ≡ true
is_instance t k r a b = rw (eq-eqb r.t t a, eq-eqb r.k k b) refl

none_lacks : (rs : List Record) (es : List Entry) → lacks_instance rs es ≡ false → All (HasEntry es) rs
none_lacks [] es h = All-nil (HasEntry es)
none_lacks (r ∷ rs) es h =
    let p = or_parts (not (has_instance r.t r.k es)) (lacks_instance rs es) h in
    let a = Any-from_list_any (λ (e : Entry). is_of r.t r.k e.rec) es (not-false (has_instance r.t r.k es) p.0) in
    All-cons (HasEntry es) r rs (a.0, a.1, a.2, a.3, of_instance r.t r.k a.1.rec a.4) (none_lacks rs es p.1)

lacks_none : (rs : List Record) (es : List Entry) → All (HasEntry es) rs → lacks_instance rs es ≡ false
lacks_none rs es h =
    list_any_none (λ r. not (has_instance r.t r.k es)) rs
    (λ i d l.
    let r = get_or rs i d in
    let a = h i d l in
    ap not (list_any-from_Any (λ (e : Entry). is_of r.t r.k e.rec) es (a.0, a.1, a.2, a.3, is_instance r.t r.k a.1.rec a.4.0 a.4.1)))

records_legal : (rs : List Record) (es : List Entry) → ((i : ℕ) → i < length es + 1 → breaks_records rs es i ≡ false) → HasRecords rs es
records_legal rs es h = record {
  recorded = All-from_get_or (λ (e : Entry). record_for e.rec.t e.rec.k rs ≡ Some e.rec) es no_entry (λ i l. recorded_is rs (entry_at es i).rec (not-false (is_recorded rs (entry_at es i).rec) (at i l).0));
  once = pairs_from IsOther es (λ i j lt l a b.
      true≢false (sym (any_first (λ (e : Entry). is_of (entry_at es j).rec.t (entry_at es j).rec.k e.rec) es i j lt (omega arith) (is_instance (entry_at es j).rec.t (entry_at es j).rec.k (entry_at es i).rec a b)) ∙ (at j l).1));
  whole = none_lacks rs es (sym (missing_test rs es) ∙ h (length es) (omega arith));
}
  where
    at : (i : ℕ) → i < length es → (not (is_recorded rs (entry_at es i).rec) ≡ false) × (has_instance (entry_at es i).rec.t (entry_at es i).rec.k (take i es) ≡ false)
    at i l = or_parts (not (is_recorded rs (entry_at es i).rec)) (has_instance (entry_at es i).rec.t (entry_at es i).rec.k (take i es)) (sym (record_test rs es i l) ∙ h i (omega arith))

records_kept : (rs : List Record) (es : List Entry) → HasRecords rs es → (i : ℕ) → i < length es + 1 → breaks_records rs es i ≡ false
records_kept rs es h i l = elim (cases_lt i (length es)) [
  | inl lt ↦
      let r = (entry_at es i).rec in
      let recorded : is_recorded rs r ≡ true = ap (λ (o : Option Record). option_map_or (is_same_record r) o false) (h.recorded i no_entry lt) ∙ same_record r in
      let new : has_instance r.t r.k (take i es) ≡ false
      = none_first (λ (e : Entry). is_of r.t r.k e.rec) es i (omega arith) (λ k b. refuted (is_of r.t r.k (entry_at es k).rec) (λ t. let s = of_instance r.t r.k (entry_at es k).rec t in h.once k i no_entry b lt s.0 s.1)) in
      record_test rs es i lt ∙ (ap (λ b. not b || has_instance r.t r.k (take i es)) recorded ∙ new)
  | inr le ↦
      let end : i ≡ length es = omega arith in
      ap (breaks_records rs es) end ∙ (missing_test rs es ∙ lacks_none rs es h.whole)
]

-- ---- tickets

ticket_parts : (x : ℕ) (e : Entry) → is_ticket x e ≡ false → (e.start ≢ x) × (e.end_at ≢ x)
ticket_parts x e h =
    let p = or_parts (eqb e.start x) (eqb e.end_at x) h in (
      (λ s. true≢false (sym (eq-eqb e.start x s) ∙ p.0)),
      (λ s. true≢false (sym (eq-eqb e.end_at x s) ∙ p.1)),
    )

ticket_none : (x : ℕ) (e : Entry) → e.start ≢ x → e.end_at ≢ x → is_ticket x e ≡ false
ticket_none x e a b = rw (ne_eqb e.start x a, ne_eqb e.end_at x b) refl

undrawn_at : (x : ℕ) (es : List Entry) (k i : ℕ) → is_drawn x (take i es) ≡ false → k < i → i ≤ length es → ((entry_at es k).start ≢ x) × ((entry_at es k).end_at ≢ x)
undrawn_at x es k i h lt le =
    ticket_parts x (entry_at es k) (refuted (is_ticket x (entry_at es k)) (λ t. true≢false (sym (any_first (is_ticket x) es k i lt le t) ∙ h)))

undrawn_all : (x : ℕ) (es : List Entry) (i : ℕ) → i ≤ length es → ((k : ℕ) → k < i → ((entry_at es k).start ≢ x) × ((entry_at es k).end_at ≢ x)) → is_drawn x (take i es) ≡ false
undrawn_all x es i le h = none_first (is_ticket x) es i le (λ k l. ticket_none x (entry_at es k) (h k l).0 (h k l).1)

tickets_legal : (es : List Entry) → ((i : ℕ) → i < length es → breaks_tickets es i ≡ false) → HasTickets es
tickets_legal es h = record {
  intervals = All-from_get_or (λ (e : Entry). (e.start < e.end_at) × (e.end_at < 2 * length es)) es no_entry (λ i l. let f = fits_when es i (h i l) in (f.0, f.1));
  differ = pairs_from OtherTickets es (λ i j lt l.
      let e = entry_at es j in
      let p = four_false (not (ltb e.start e.end_at)) (not (ltb e.end_at (2 * length es))) (is_drawn e.start (take j es)) (is_drawn e.end_at (take j es)) (h j l) in
      let a = undrawn_at e.start es i j p.2 lt (omega arith) in
      let b = undrawn_at e.end_at es i j p.3 lt (omega arith) in
      record { starts = a.0; start_end = b.0; end_start = a.1; ends = b.1 });
}

tickets_kept : (es : List Entry) → HasTickets es → (i : ℕ) → i < length es → breaks_tickets es i ≡ false
tickets_kept es h i l =
    let e = entry_at es i in
    let f = h.intervals i no_entry l in
    let start = undrawn_all e.start es i (omega arith) (λ k lt. let o = h.differ k i no_entry lt l in (o.starts, o.end_start)) in
    let end = undrawn_all e.end_at es i (omega arith) (λ k lt. let o = h.differ k i no_entry lt l in (o.start_end, o.ends)) in
    rw (lt-ltb e.start e.end_at f.0, lt-ltb e.end_at (2 * length es) f.1, start, end) refl

-- ---- order

order_legal : (tasks : List TaskValue) (es : List Entry) → ((i : ℕ) → i < length es → BreaksOrder tasks es i → ⊥) → KeepsOrder tasks es
order_legal tasks es h =
    All-from_get_or (λ (e : Entry). All (λ (f : Entry). Before tasks e.rec.t f.rec.t → e.end_at < f.start) es) es no_entry
    (λ i l. All-from_get_or (λ (f : Entry). Before tasks (entry_at es i).rec.t f.rec.t → (entry_at es i).end_at < f.start) es no_entry
    (λ j k b. ⊎_elim
    (λ (lt : (entry_at es i).end_at < (entry_at es j).start). lt)
    (λ (le : (entry_at es j).start ≤ (entry_at es i).end_at). absurd (h j k (record { late = i; there = l; before = b; ends = le })))
    (cases_lt (entry_at es i).end_at (entry_at es j).start)))

order_kept : (tasks : List TaskValue) (es : List Entry) → KeepsOrder tasks es → (i : ℕ) → i < length es → BreaksOrder tasks es i → ⊥
order_kept tasks es h i l b = let lt = h b.late no_entry b.there i no_entry l b.before in let le = b.ends in omega arith

-- ---- cores

cores_legal : (cores : ℕ) (es : List Entry) → ((i : ℕ) → i < length es → breaks_cores cores es i ≡ false) → HasCores cores es
cores_legal cores es h = record {
  own = All-from_get_or (λ (e : Entry). e.core < cores) es no_entry (λ i l. below_when (entry_at es i).core cores (at i l).0);
  apart = pairs_from (λ e f. e.core ≡ f.core → Apart e f) es (λ i j lt l c.
      apart_when (entry_at es i) (entry_at es j) (refuted (overlaps (entry_at es i) (entry_at es j)) (λ o. true≢false (sym (busy_at (entry_at es j) es i j lt (omega arith) c o) ∙ (at j l).1))));
}
  where
    at : (i : ℕ) → i < length es → (not (ltb (entry_at es i).core cores) ≡ false) × (is_busy (entry_at es i) (take i es) ≡ false)
    at i l = or_parts (not (ltb (entry_at es i).core cores)) (is_busy (entry_at es i) (take i es)) (h i l)

    apart_when : (e f : Entry) → overlaps e f ≡ false → Apart e f
    apart_when e f o = ⊎_elim
        (λ (a : not (ltb e.end_at f.start) ≡ false). inl (below_when e.end_at f.start a))
        (λ (a : not (ltb f.end_at e.start) ≡ false). inr (below_when f.end_at e.start a))
        (and_cases (not (ltb e.end_at f.start)) (not (ltb f.end_at e.start)) o)

cores_kept : (cores : ℕ) (es : List Entry) → HasCores cores es → (i : ℕ) → i < length es → breaks_cores cores es i ≡ false
cores_kept cores es h i l =
    rw (lt-ltb (entry_at es i).core cores (h.own i no_entry l)) (free_at (entry_at es i) es i (omega arith) (λ k lt c. apart_free (entry_at es k) (entry_at es i) (h.apart k i no_entry lt l c)))

-- ---- rising starts

rises_legal : (es : List Entry) → ((i : ℕ) → i < length es → breaks_rise es i ≡ false) → Rises es
rises_legal es h = pairs_from (λ e f. e.start < f.start) es (λ i j lt l. by i j lt l)
  where
    next : (i : ℕ) → suc i < length es → (entry_at es i).start < (entry_at es (suc i)).start
    next i l =
        let back : suc i - 1 ≡ i = omega arith in
        let test : (ltb 0 (suc i) && not (ltb (entry_at es (suc i - 1)).start (entry_at es (suc i)).start)) ≡ false = h (suc i) l in
        let some : ltb 0 (suc i) ≡ true = lt-ltb 0 (suc i) (omega arith) in
        below_when (entry_at es i).start (entry_at es (suc i)).start
        (ap (λ n. not (ltb (entry_at es n).start (entry_at es (suc i)).start)) (sym back) ∙ (ap (λ b. b && not (ltb (entry_at es (suc i - 1)).start (entry_at es (suc i)).start)) (sym some) ∙ test))

    by : (i j : ℕ) → i < j → j < length es → (entry_at es i).start < (entry_at es j).start
    by i zero lt l = absurd (omega arith)
    by i (suc j) lt l = ⊎_elim
        (λ (b : i < j). omega (arith, by i j b (omega arith), next j l))
        (λ (b : j ≤ i). let e : j ≡ i = omega arith in subst (λ n. (entry_at es n).start < (entry_at es (suc j)).start) e (next j l))
        (cases_lt i j)

rises_kept : (es : List Entry) → Rises es → (i : ℕ) → i < length es → breaks_rise es i ≡ false
rises_kept es h zero l = refl
rises_kept es h (suc i) l =
    let back : suc i - 1 ≡ i = omega arith in
    let lt = h i (suc i) no_entry (omega arith) l in
    rw (back, lt-ltb (entry_at es i).start (entry_at es (suc i)).start lt) (no (ltb 0 (suc i)))
  where
    no : (b : Bool) → (b && false) ≡ false
    no true = refl
    no false = refl

-- ---- outcomes and words

same_outcome : (o : Outcome) → is_same_outcome o o ≡ true
same_outcome outcome.Ended0 = refl
same_outcome outcome.Ended1 = refl
same_outcome outcome.Skipped = refl
same_outcome outcome.Failed = refl

-- Outcomes keep rule 6 by themselves.
pub outcomes_fine : (os : List Outcome) (i : ℕ) → i < length os → breaks_outcomes (map (λ o. Some o) os) os i ≡ false
outcomes_fine os i l = outcome_test os os i outcome.Ended0 outcome.Ended0 refl l ∙ ap not (same_outcome (get_or os i outcome.Ended0))

-- A memory keeps rule 7 by itself.
pub words_fine : (ws : List ℕ) (i : ℕ) → breaks_words ws ws i ≡ false
words_fine ws i = ap not (eq-eqb (slice_index ws i) (slice_index ws i) refl)

outcome_is : (o p : Outcome) → is_same_outcome o p ≡ true → o ≡ p
outcome_is outcome.Ended0 outcome.Ended0 h = refl
outcome_is outcome.Ended1 outcome.Ended1 h = refl
outcome_is outcome.Skipped outcome.Skipped h = refl
outcome_is outcome.Failed outcome.Failed h = refl
outcome_is _ _ h = absurd cc

outcomes_legal : (os : List Outcome) (xs : List (Option Outcome)) → length os ≡ length xs → ((i : ℕ) → i < length xs → breaks_outcomes xs os i ≡ false) → map (λ o. Some o) os ≡ xs
outcomes_legal [] [] e h = refl
outcomes_legal [] (x ∷ xs) e h = absurd (omega arith)
outcomes_legal (o ∷ os) [] e h = absurd (omega arith)
outcomes_legal (o ∷ os) (x ∷ xs) e h =
    let first = head x (not-false (is_outcome (Some o) x) (h 0 (omega arith))) in
    let rest = outcomes_legal os xs (omega arith) (λ i l. h (suc i) (omega arith)) in
    ap (λ (y : Option Outcome). y ∷ map (λ o. Some o) os) first ∙ ap (λ (ys : List (Option Outcome)). x ∷ ys) rest
  where
    head : (x : Option Outcome) → is_outcome (Some o) x ≡ true → Some o ≡ x
    head None h = absurd cc
    head (Some p) h = ap Some (outcome_is o p h)

words_legal : (xs last : List ℕ) → length last ≡ length xs → ((i : ℕ) → i < length xs → breaks_words xs last i ≡ false) → last ≡ xs
words_legal xs last e h = ext_get_or 0 last xs e (λ i l. eqb-true (slice_index last i) (slice_index xs i) (not-false (eqb (slice_index last i) (slice_index xs i)) (h i (omega arith))))

-- ---- all seven

-- If no rule fails, the log is legal.
pub legal_from_none : (x : Expected) (log : LogValue) (last : List ℕ) → length log.outcomes ≡ length x.outcomes → length last ≡ length x.memory → NoneFails x log last → IsLegal x log last
legal_from_none x log last o w h = record {
  records = records_legal x.records log.entries (λ i l. refuted _ (λ b. h Records i (l, b)));
  tickets = tickets_legal log.entries (λ i l. refuted _ (λ b. h Tickets i (l, b)));
  order = order_legal x.tasks log.entries (λ i l b. h Order i (l, b));
  cores = cores_legal log.cores log.entries (λ i l. refuted _ (λ b. h Cores i (l, b)));
  rises = rises_legal log.entries (λ i l. refuted _ (λ b. h Rise i (l, b)));
  outcomes = outcomes_legal log.outcomes x.outcomes o (λ i l. refuted _ (λ b. h Outcomes i (l, b)));
  words = words_legal x.memory last w (λ i l. refuted _ (λ b. h Words i (l, b)));
}

breaks_not : {b : Bool} → b ≡ false → b ≡ true → ⊥
breaks_not f t = true≢false (sym t ∙ f)

-- If a log is legal, no rule fails.
none_from_legal : (x : Expected) (log : LogValue) (last : List ℕ) → IsLegal x log last → NoneFails x log last
none_from_legal x log last h Records i f = breaks_not (records_kept x.records log.entries h.records i f.0) f.1
none_from_legal x log last h Tickets i f = breaks_not (tickets_kept log.entries h.tickets i f.0) f.1
none_from_legal x log last h Order i f = order_kept x.tasks log.entries h.order i f.0 f.1
none_from_legal x log last h Cores i f = breaks_not (cores_kept log.cores log.entries h.cores i f.0) f.1
none_from_legal x log last h Rise i f = breaks_not (rises_kept log.entries h.rises i f.0) f.1
none_from_legal x log last h Outcomes i f =
    breaks_not (subst (λ (xs : List (Option Outcome)). breaks_outcomes xs log.outcomes i ≡ false) h.outcomes
    (outcomes_fine log.outcomes i (let l = f.0 in omega (arith, length-map log.outcomes (λ o. Some o), ap length h.outcomes)))) f.1
none_from_legal x log last h Words i f = breaks_not (subst (λ (ws : List ℕ). breaks_words x.memory ws i ≡ false) (sym h.words) (words_fine x.memory i)) f.1

-- A log is legal exactly if no rule fails.
pub legal_exactly : LegalExactly
legal_exactly x log last o w = (none_from_legal x log last, legal_from_none x log last o w)

-- A verdict is yes exactly if the log is legal.
pub yes_exactly : YesExactly
yes_exactly x log last Yes h = ((λ e. h), (λ l. refl))
yes_exactly x log last (No number at) h = ((λ e. absurd cc), (λ l. absurd (none_from_legal x log last l h.rule at h.fails)))
