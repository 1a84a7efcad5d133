-- The verdict, found by one rule after the other.
use Rattle.std.proofs.Common.{◌≡◌, ℕ, ◌+◌, ◌<◌, Bool, true, eqb, cond, List, length, map, Option, Some, None, refl, sym, ap, subst, ◌∙◌, arith, inl, inr}
use Rattle.std.proofs.lemmas.Bool.{cases_eq, cases_lt}
use Rattle.std.proofs.lemmas.List.{length-map}
use Rattle.plural_map.specs.declared.outcome.Outcome.{Outcome}
use Rattle.plural_serial.specs.declared.record_.Record.{Record}
use Rattle.plural_trace.specs.declared.entry.Entry.{Entry}
use Rattle.plural_trace.specs.declared.verdict.Verdict.{Verdict}
use Rattle.plural_trace.specs.declared.verdict.Verdict.TheVariants.{No}
use Rattle.plural_trace.specs.Logs.{LogValue}
use Rattle.plural_trace.specs.Least.{least, IsLeast}
use Rattle.plural_trace.specs.Rules.{breaks_records, breaks_tickets, BreaksOrder, breaks_cores, breaks_rise, breaks_outcomes, breaks_words}
use Rattle.plural_trace.specs.Verdicts.{Expected, Rule, Records, Tickets, Order, Cores, Rise, Outcomes, Words, rank, Fails, NoneFails, HoldBefore, IsVerdict}
use Rattle.plural_trace.proofs.LeastPlaces.{least_is}

-- ---- rules by their numbers

-- The rule of a number.
abbrev numbered : ℕ → Rule
numbered n =
    cond (eqb n 1) Records
    (cond (eqb n 2) Tickets
    (cond (eqb n 3) Order
    (cond (eqb n 4) Cores
    (cond (eqb n 5) Rise
    (cond (eqb n 6) Outcomes Words)))))

same_rule : (r s : Rule) → rank r ≡ rank s → r ≡ s
same_rule r s e = sym (back r) ∙ ap numbered e ∙ back s
  where
    back : (r : Rule) → numbered (rank r) ≡ r
    back Records = refl
    back Tickets = refl
    back Order = refl
    back Cores = refl
    back Rise = refl
    back Outcomes = refl
    back Words = refl

-- ---- rules that fail nowhere

-- The rule fails nowhere.
abbrev Holds : Expected → LogValue → (last : List ℕ) → Rule → Type 0
Holds x log last rule = (i : ℕ) → Fails x log last rule i → ⊥

-- No rule is before the first.
pub hold_first : (x : Expected) (log : LogValue) (last : List ℕ) → HoldBefore x log last 1
hold_first x log last rule l = absurd (low rule l)
  where
    low : (rule : Rule) → rank rule < 1 → ⊥
    low Records l = omega arith
    low Tickets l = omega arith
    low Order l = omega arith
    low Cores l = omega arith
    low Rise l = omega arith
    low Outcomes l = omega arith
    low Words l = omega arith

-- One more rule that fails nowhere.
hold_next : (x : Expected) (log : LogValue) (last : List ℕ) (rule : Rule) (next : ℕ) → next ≡ rank rule + 1 → HoldBefore x log last (rank rule) → Holds x log last rule → HoldBefore x log last next
hold_next x log last rule next e before own other l = elim (cases_eq (rank other) (rank rule)) [
  | inl same ↦ subst (Holds x log last) (sym (same_rule other rule same)) own
  | inr differ ↦ before other (omega (arith, differ))
]

-- ---- the least place of a rule

-- It is the least place at which the rule fails; or, if it is none, the rule fails nowhere.
abbrev pub Finds : Expected → LogValue → (last : List ℕ) → Rule → Option ℕ → Type 0
Finds x log last rule (Some i) = Fails x log last rule i × ((j : ℕ) → j < i → Fails x log last rule j → ⊥)
Finds x log last rule None = Holds x log last rule

-- A rule that fails nowhere is passed.
pub passed : (x : Expected) (log : LogValue) (last : List ℕ) (rule : Rule) (next : ℕ) (o : Option ℕ) → next ≡ rank rule + 1 → HoldBefore x log last (rank rule) → Finds x log last rule o → o ≡ None
    → HoldBefore x log last next
passed x log last rule next o e before found none = hold_next x log last rule next e before (subst (Finds x log last rule) none found)

-- After rules that fail nowhere, the least place at which one fails is the verdict.
pub failed : (x : Expected) (log : LogValue) (last : List ℕ) (rule : Rule) (o : Option ℕ) (at : ℕ) (v : Verdict) → HoldBefore x log last (rank rule) → Finds x log last rule o → o ≡ Some at
    → v ≡ No (rank rule) at → IsVerdict x log last v
failed x log last rule o at v before found some is = subst (IsVerdict x log last) (sym is) (record {
  rule = rule;
  numbered = refl;
  fails = here.0;
  least = λ i f. elim (cases_lt i at) [
    | inl l ↦ absurd (here.1 i l f)
    | inr l ↦ l
  ];
  first = λ other i f. elim (cases_lt (rank other) (rank rule)) [
    | inl l ↦ absurd (before other l i f)
    | inr l ↦ l
  ];
})
  where
    here : Finds x log last rule (Some at)
    here = subst (Finds x log last rule) some found

-- If each rule is passed none fails.
pub all_hold : (x : Expected) (log : LogValue) (last : List ℕ) → HoldBefore x log last 8 → NoneFails x log last
all_hold x log last h rule = h rule (low rule)
  where
    low : (rule : Rule) → rank rule < 8
    low Records = omega arith
    low Tickets = omega arith
    low Order = omega arith
    low Cores = omega arith
    low Rise = omega arith
    low Outcomes = omega arith
    low Words = omega arith

-- ---- what each rule's search finds

-- The least place below n that has a property.
abbrev FindsBelow : (ℕ → Type 0) → (n : ℕ) → Option ℕ → Type 0
FindsBelow P n (Some i) = ((i < n) × P i) × ((j : ℕ) → j < i → (j < n) × P j → ⊥)
FindsBelow P n None = (i : ℕ) → (i < n) × P i → ⊥

least_below : (P : ℕ → Type 0) (n : ℕ) (o : Option ℕ) → IsLeast P n o → FindsBelow P n o
least_below P n (Some i) h = ((h.0, h.1), λ j l f. h.2 j l f.1)
least_below P n None h = λ i f. h i f.0 f.1

test_below : (p : ℕ → Bool) (n : ℕ) (o : Option ℕ) → o ≡ least p n → FindsBelow (λ i. p i ≡ true) n o
test_below p n o e = least_below (λ i. p i ≡ true) n o (least_is p n o e)

-- Rule 1, over the records and entries that were read.
pub finds_records : (x : Expected) (log : LogValue) (last : List ℕ) (rs : List Record) (es : List Entry) (o : Option ℕ) → rs ≡ x.records → es ≡ log.entries
    → o ≡ least (breaks_records rs es) (length es + 1) → Finds x log last Records o
finds_records x log last rs es o r e h = by o (rw (r, e) at h)
  where
    by : (o : Option ℕ) → o ≡ least (breaks_records x.records log.entries) (length log.entries + 1) → Finds x log last Records o
    by (Some i) h = test_below (breaks_records x.records log.entries) (length log.entries + 1) (Some i) h
    by None h = test_below (breaks_records x.records log.entries) (length log.entries + 1) None h

-- Rule 2.
pub finds_tickets : (x : Expected) (log : LogValue) (last : List ℕ) (es : List Entry) (o : Option ℕ) → es ≡ log.entries → o ≡ least (breaks_tickets es) (length es) → Finds x log last Tickets o
finds_tickets x log last es o e h = by o (rw e at h)
  where
    by : (o : Option ℕ) → o ≡ least (breaks_tickets log.entries) (length log.entries) → Finds x log last Tickets o
    by (Some i) h = test_below (breaks_tickets log.entries) (length log.entries) (Some i) h
    by None h = test_below (breaks_tickets log.entries) (length log.entries) None h

-- Rule 3.
pub finds_order : (x : Expected) (log : LogValue) (last : List ℕ) (es : List Entry) (o : Option ℕ) → es ≡ log.entries → IsLeast (BreaksOrder x.tasks es) (length es) o → Finds x log last Order o
finds_order x log last es o e h = by o (rw e at h)
  where
    by : (o : Option ℕ) → IsLeast (BreaksOrder x.tasks log.entries) (length log.entries) o → Finds x log last Order o
    by (Some i) h = least_below (BreaksOrder x.tasks log.entries) (length log.entries) (Some i) h
    by None h = least_below (BreaksOrder x.tasks log.entries) (length log.entries) None h

-- Rule 4.
pub finds_cores : (x : Expected) (log : LogValue) (last : List ℕ) (cores : ℕ) (es : List Entry) (o : Option ℕ) → cores ≡ log.cores → es ≡ log.entries
    → o ≡ least (breaks_cores cores es) (length es) → Finds x log last Cores o
finds_cores x log last cores es o c e h = by o (rw (c, e) at h)
  where
    by : (o : Option ℕ) → o ≡ least (breaks_cores log.cores log.entries) (length log.entries) → Finds x log last Cores o
    by (Some i) h = test_below (breaks_cores log.cores log.entries) (length log.entries) (Some i) h
    by None h = test_below (breaks_cores log.cores log.entries) (length log.entries) None h

-- Rule 5.
pub finds_rise : (x : Expected) (log : LogValue) (last : List ℕ) (es : List Entry) (o : Option ℕ) → es ≡ log.entries → o ≡ least (breaks_rise es) (length es) → Finds x log last Rise o
finds_rise x log last es o e h = by o (rw e at h)
  where
    by : (o : Option ℕ) → o ≡ least (breaks_rise log.entries) (length log.entries) → Finds x log last Rise o
    by (Some i) h = test_below (breaks_rise log.entries) (length log.entries) (Some i) h
    by None h = test_below (breaks_rise log.entries) (length log.entries) None h

-- Rule 6, over the outcomes that the serial run left.
pub finds_outcomes : (x : Expected) (log : LogValue) (last : List ℕ) (os ps : List Outcome) (o : Option ℕ) → map (λ p. Some p) os ≡ x.outcomes → ps ≡ log.outcomes
    → o ≡ least (breaks_outcomes (map (λ p. Some p) os) ps) (length os) → Finds x log last Outcomes o
finds_outcomes x log last os ps o s e h = by o (rw (s, e, sym (length-map os (λ p. Some p)) ∙ ap length s) at h)
  where
    by : (o : Option ℕ) → o ≡ least (breaks_outcomes x.outcomes log.outcomes) (length x.outcomes) → Finds x log last Outcomes o
    by (Some i) h = test_below (breaks_outcomes x.outcomes log.outcomes) (length x.outcomes) (Some i) h
    by None h = test_below (breaks_outcomes x.outcomes log.outcomes) (length x.outcomes) None h

-- Rule 7.
pub finds_words : (x : Expected) (log : LogValue) (last ws : List ℕ) (o : Option ℕ) → ws ≡ x.memory → o ≡ least (breaks_words ws last) (length ws) → Finds x log last Words o
finds_words x log last ws o w h = by o (rw w at h)
  where
    by : (o : Option ℕ) → o ≡ least (breaks_words x.memory last) (length x.memory) → Finds x log last Words o
    by (Some i) h = test_below (breaks_words x.memory last) (length x.memory) (Some i) h
    by None h = test_below (breaks_words x.memory last) (length x.memory) None h
