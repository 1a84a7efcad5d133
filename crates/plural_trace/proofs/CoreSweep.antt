-- The first interval that overlaps an earlier one of its core, found by rising tickets.
use Rattle.std.proofs.Common.{◌≡◌, ℕ, ◌+◌, ◌*◌, ◌<◌, ◌≤◌, min, max, Bool, true, false, not, ◌&&◌, eqb, ltb, List, length, take, set, replicate, get_or, None, refl, sym, ap, subst, ◌∙◌, arith, eqb-true, inl, inr}
use Rattle.std.proofs.lemmas.Bool.{and_from, or_left, cases_lt, cases_eq, cases_order, eq-eqb, lt-ltb, le-ltb}
use Rattle.std.proofs.lemmas.List.{get_or-set_same, get_or-set_other, set-get_or, length-set, length-replicate, get_or-replicate}
use Rattle.plural_trace.specs.declared.entry.Entry.{Entry}
use Rattle.plural_trace.specs.Least.{least}
use Rattle.plural_trace.specs.Rules.{no_entry, entry_at, is_ticket, is_drawn, breaks_tickets, overlaps, is_busy}
use Rattle.plural_trace.specs.Busy.{is_busy_at}
use Rattle.plural_trace.specs.Legality.{Apart}
use Rattle.plural_trace.proofs.LeastPlaces.{least_none, none_at_all}
use Rattle.plural_trace.proofs.EntryPlaces.{any_first, none_first}
use Rattle.plural_trace.proofs.TicketLemmas.{four_false, fits_when, rise_when}

-- ---- starts differ

drawn_at : (es : List Entry) (k l : ℕ) → k < l → l ≤ length es → is_drawn (entry_at es k).start (take l es) ≡ true
drawn_at es k l lt le =
    let x = (entry_at es k).start in
    any_first (is_ticket x) es k l lt le (or_left (eqb x x) (eqb (entry_at es k).end_at x) (eq-eqb x x refl))

-- The start of an entry with fine tickets is no ticket of an earlier one.
undrawn : (es : List Entry) (i : ℕ) → breaks_tickets es i ≡ false → is_drawn (entry_at es i).start (take i es) ≡ false
undrawn es i e =
    let x = entry_at es i in
    (four_false (not (ltb x.start x.end_at)) (not (ltb x.end_at (2 * length es))) (is_drawn x.start (take i es)) (is_drawn x.end_at (take i es)) e).2

-- Entries of fine tickets that start alike are the same.
starts_differ : (es : List Entry) (k l : ℕ) → least (breaks_tickets es) (length es) ≡ None → k < length es → l < length es → (entry_at es k).start ≡ (entry_at es l).start → k ≡ l
starts_differ es k l fine lk ll e = elim (cases_order k l) [
  | inl same ↦ same
  | inr (inl lt) ↦ absurd (later k l lt ll e)
  | inr (inr lt) ↦ absurd (later l k lt lk (sym e))
]
  where
    later : (k l : ℕ) → k < l → l < length es → (entry_at es k).start ≡ (entry_at es l).start → ⊥
    later k l lt ll e =
        let none = undrawn es l (least_none (breaks_tickets es) l (length es) ll fine) in
        let some : is_drawn (entry_at es l).start (take l es) ≡ true = ap (λ x. is_drawn x (take l es)) (sym e) ∙ drawn_at es k l lt (omega arith) in
        let f : true ≡ false = sym some ∙ none in
        cc

-- ---- which entry starts at a ticket

-- Fine tickets start below twice the number of entries.
pub start_below : (es : List Entry) (i : ℕ) → least (breaks_tickets es) (length es) ≡ None → i < length es → (entry_at es i).start < 2 * length es
start_below es i fine l = let f = fits_when es i (least_none (breaks_tickets es) i (length es) l fine) in omega (arith, f.0, f.1)

-- One more entry is noted at its start.
pub starts_there : (es : List Entry) (m i : ℕ) (starts : List ℕ) → least (breaks_tickets es) (length es) ≡ None → length starts ≡ 2 * length es → i < length es
    → ((s : ℕ) → s < 2 * length es → get_or starts s 0 < m → (entry_at es (get_or starts s 0)).start ≡ s)
    → (s : ℕ) → s < 2 * length es → get_or (set starts (entry_at es i).start i) s 0 < m → (entry_at es (get_or (set starts (entry_at es i).start i) s 0)).start ≡ s
starts_there es m i starts fine long l there s ls lm = elim (cases_eq s (entry_at es i).start) [
  | inl here ↦
      let own = start_below es i fine l in
      let new : get_or (set starts (entry_at es i).start i) s 0 ≡ i = ap (λ x. get_or (set starts (entry_at es i).start i) x 0) here ∙ get_or-set_same starts (entry_at es i).start i 0 (omega arith) in
      rw new (sym here)
  | inr other ↦
      let old : get_or (set starts (entry_at es i).start i) s 0 ≡ get_or starts s 0 = get_or-set_other starts (entry_at es i).start s i 0 other in
      rw old (there s ls (rw old at lm))
]

-- One more entry is found at its start.
pub starts_each : (es : List Entry) (i : ℕ) (starts : List ℕ) → least (breaks_tickets es) (length es) ≡ None → length starts ≡ 2 * length es → i < length es
    → ((k : ℕ) → k < i → get_or starts (entry_at es k).start 0 ≡ k) → (k : ℕ) → k < i + 1 → get_or (set starts (entry_at es i).start i) (entry_at es k).start 0 ≡ k
starts_each es i starts fine long l each k lk = elim (cases_eq k i) [
  | inl here ↦
      let own = start_below es i fine l in
      rw here (get_or-set_same starts (entry_at es i).start i 0 (omega arith))
  | inr other ↦
      get_or-set_other starts (entry_at es i).start (entry_at es k).start i 0 (λ e. other (starts_differ es k i fine (omega (arith, other)) l e)) ∙ each k (omega (arith, other))
]

-- ---- an entry among earlier ones

-- Intervals that are apart don't overlap.
pub apart_free : (e f : Entry) → Apart e f → overlaps e f ≡ false
apart_free e f (inl l) = rw (lt-ltb e.end_at f.start l) refl
apart_free e f (inr l) = rw (lt-ltb f.end_at e.start l) (no (not (ltb e.end_at f.start)))
  where
    no : (b : Bool) → (b && false) ≡ false
    no true = refl
    no false = refl

meet_busy : (e f : Entry) → f.start ≤ e.end_at → e.start ≤ f.end_at → overlaps e f ≡ true
meet_busy e f a b = rw (le-ltb e.end_at f.start a, le-ltb f.end_at e.start b) refl

-- An interval that overlaps an earlier one of its core is busy.
pub busy_at : (f : Entry) (es : List Entry) (k i : ℕ) → k < i → i ≤ length es → (entry_at es k).core ≡ f.core → overlaps (entry_at es k) f ≡ true → is_busy f (take i es) ≡ true
busy_at f es k i lt le c o = any_first (λ e. (eqb e.core f.core) && overlaps e f) es k i lt le (and_from (eqb (entry_at es k).core f.core) (overlaps (entry_at es k) f) (eq-eqb (entry_at es k).core f.core c) o)

-- One that overlaps none of them is free.
pub free_at : (f : Entry) (es : List Entry) (i : ℕ) → i ≤ length es → ((k : ℕ) → k < i → (entry_at es k).core ≡ f.core → overlaps (entry_at es k) f ≡ false) → is_busy f (take i es) ≡ false
free_at f es i le h =
    none_first (λ e. (eqb e.core f.core) && overlaps e f) es i le (λ k l. both (eqb (entry_at es k).core f.core) (overlaps (entry_at es k) f) (λ c. h k l (eqb-true (entry_at es k).core f.core c)))
  where
    both : (a b : Bool) → (a ≡ true → b ≡ false) → (a && b) ≡ false
    both true b h = h refl
    both false b h = refl

-- ---- what is known at a ticket

-- Of the first m entries those that start below the ticket were looked at. `first` is an entry that overlaps an earlier
-- one, or m; of the entries before it no two of a core overlap, and each but the last to start ended before that.
pub record Swept (es : List Entry) (m cores ticket first : ℕ) (last : List ℕ) : Type 0 where
  pub long : length last ≡ cores
  pub within : first ≤ m
  pub busy : first < m → is_busy_at es first ≡ true
  pub apart : (k l : ℕ) → k < first → l < first → (k ≡ l → ⊥) → (entry_at es k).start < ticket → (entry_at es l).start < ticket → (entry_at es k).core ≡ (entry_at es l).core → Apart (entry_at es k) (entry_at es l)
  pub started : (c : ℕ) → c < cores → get_or last c 0 < m → ((entry_at es (get_or last c 0)).start < ticket) × ((entry_at es (get_or last c 0)).core ≡ c)
  pub ended : (k : ℕ) → k < first → (entry_at es k).start < ticket → (k ≡ get_or last (entry_at es k).core 0 → ⊥)
      → (get_or last (entry_at es k).core 0 < m) × ((entry_at es k).end_at < (entry_at es (get_or last (entry_at es k).core 0)).start)

-- Entries of fine tickets, of which the first m are of cores.
pub record AreLawful (es : List Entry) (m cores : ℕ) : Type 0 where
  pub below : m ≤ length es
  pub tickets : least (breaks_tickets es) (length es) ≡ None
  pub own : (k : ℕ) → k < m → (entry_at es k).core < cores

-- Before the first ticket nothing is known.
swept_none : (es : List Entry) (m cores : ℕ) → Swept es m cores 0 m (replicate cores m)
swept_none es m cores = record {
  long = length-replicate cores m;
  within = omega arith;
  busy = λ l. absurd (omega arith);
  apart = λ k l lk ll other bk bl e. absurd (omega arith);
  started = λ c l h. absurd (omega (arith, get_or-replicate cores c m 0 l));
  ended = λ k l b other. absurd (omega arith);
}

-- A ticket at which no entry before the first found starts.
swept_skip : (es : List Entry) (m cores s first : ℕ) (last : List ℕ) → ((k : ℕ) → k < first → (entry_at es k).start ≡ s → ⊥) → Swept es m cores s first last → Swept es m cores (s + 1) first last
swept_skip es m cores s first last none h = record {
  long = h.long;
  within = h.within;
  busy = h.busy;
  apart = λ k l lk ll other bk bl e. h.apart k l lk ll other (below k lk bk) (below l ll bl) e;
  started = λ c l i. let a = h.started c l i in (omega (arith, a.0), a.1);
  ended = λ k l b other. h.ended k l (below k l b) other;
}
  where
    below : (k : ℕ) → k < first → (entry_at es k).start < s + 1 → (entry_at es k).start < s
    below k l b = let apart = none k l in omega (arith, apart)

-- Less is known if the first found is an earlier one.
swept_less : (es : List Entry) (m cores s first less : ℕ) (last : List ℕ) → less ≤ first → is_busy_at es less ≡ true → Swept es m cores s first last → Swept es m cores s less last
swept_less es m cores s first less last le busy h = record {
  long = h.long;
  within = let w = h.within in omega arith;
  busy = λ l. busy;
  apart = λ k l lk ll other bk bl e. h.apart k l (omega arith) (omega arith) other bk bl e;
  started = h.started;
  ended = λ k l b other. h.ended k (omega arith) b other;
}

-- An entry that starts at the ticket, after the end of the last that started on its core.
swept_next : (es : List Entry) (m cores s first i : ℕ) (last : List ℕ) → AreLawful es m cores → i < first → (entry_at es i).start ≡ s
    → (get_or last (entry_at es i).core 0 < first → (entry_at es (get_or last (entry_at es i).core 0)).end_at < s) → Swept es m cores s first last → Swept es m cores (s + 1) first (set last (entry_at es i).core i)
swept_next es m cores s first i last law li at free h = record {
  long = length-set last c i ∙ h.long;
  within = h.within;
  busy = h.busy;
  apart = λ k l lk ll other bk bl e. elim (cases_eq k i) [
    | inl here ↦ inr (let b = earlier l ll (λ x. other (here ∙ sym x)) bl (sym e ∙ ap core here) in let a = ap start here in omega arith)
    | inr there ↦ elim (cases_eq l i) [
      | inl here ↦ inl (let b = earlier k lk there bk (e ∙ ap core here) in let a = ap start here in omega arith)
      | inr also ↦ h.apart k l lk ll other (below k lk there bk) (below l ll also bl) e
    ]
  ];
  started = λ d l v. elim (cases_eq d c) [
    | inl here ↦ rw (new d here) ((let a = at in omega arith), sym here)
    | inr there ↦ rw (old d there) (let a = h.started d l (rw (old d there) at v) in (omega (arith, a.0), a.1))
  ];
  ended = λ k l b other. elim (cases_eq (entry_at es k).core c) [
    | inl here ↦ rw (new (entry_at es k).core here) (im, (let e = earlier k l (λ x. other (x ∙ sym (new (entry_at es k).core here))) b here in let a = at in omega arith))
    | inr there ↦ rw (old (entry_at es k).core there) (h.ended k l (below k l (λ x. there (ap core x)) b) (λ x. other (x ∙ sym (old (entry_at es k).core there))))
  ];
}
  where
    c : ℕ
    c = (entry_at es i).core

    core : ℕ → ℕ
    core k = (entry_at es k).core

    start : ℕ → ℕ
    start k = (entry_at es k).start

    im : i < m
    im = let w = h.within in omega arith

    ci : c < length last
    ci = let own = law.own i im in let long = h.long in omega arith

    new : (d : ℕ) → d ≡ c → get_or (set last c i) d 0 ≡ i
    new d e = ap (λ x. get_or (set last c i) x 0) e ∙ get_or-set_same last c i 0 ci

    old : (d : ℕ) → (d ≡ c → ⊥) → get_or (set last c i) d 0 ≡ get_or last d 0
    old d e = get_or-set_other last c d i 0 e

    below : (k : ℕ) → k < first → (k ≡ i → ⊥) → (entry_at es k).start < s + 1 → (entry_at es k).start < s
    below k l other b = elim (cases_eq (entry_at es k).start s) [
      | inl e ↦ absurd (other (starts_differ es k i law.tickets (let w = h.within in let le = law.below in omega arith) (let le = law.below in omega arith) (e ∙ sym at)))
      | inr e ↦ omega (arith, e)
    ]

    earlier : (k : ℕ) → k < first → (k ≡ i → ⊥) → (entry_at es k).start < s + 1 → (entry_at es k).core ≡ c → (entry_at es k).end_at < s
    earlier k l other b e = elim (cases_eq k (get_or last c 0)) [
      | inl here ↦ subst (λ x. (entry_at es x).end_at < s) (sym here) (free (subst (λ x. x < first) here l))
      | inr there ↦
          let f = subst (λ d. (k ≡ get_or last d 0 → ⊥) → (get_or last d 0 < m) × ((entry_at es k).end_at < (entry_at es (get_or last d 0)).start)) e (h.ended k l (below k l other b)) there in
          let g = h.started c (law.own i im) f.0 in
          omega (arith, f.1, g.0)
    ]

-- An entry that starts at the ticket before the end of the last that started on its core: the later of the two is the
-- first found, and the earlier one stays.
swept_meets : (es : List Entry) (m cores s first i : ℕ) (last : List ℕ) → AreLawful es m cores → i < first → (entry_at es i).start ≡ s → get_or last (entry_at es i).core 0 < first
    → s ≤ (entry_at es (get_or last (entry_at es i).core 0)).end_at → Swept es m cores s first last
    → Swept es m cores (s + 1) (max i (get_or last (entry_at es i).core 0)) (set last (entry_at es i).core (min i (get_or last (entry_at es i).core 0)))
swept_meets es m cores s first i last law li at lj meets h = elim (cases_lt i j) [
  | inl lt ↦
      let busy : is_busy_at es j ≡ true = busy_at (entry_at es j) es i j lt jn (sym known.1) (meet_busy (entry_at es i) (entry_at es j) (let a = known.0 in let r = rise_i in omega arith) (let a = at in omega arith)) in
      let most : max i j ≡ j = omega arith in
      let least : min i j ≡ i = omega arith in
      rw (most, least) (swept_next es m cores s j i last law lt at (λ l. absurd (omega arith)) (swept_less es m cores s first j last (omega arith) busy h))
  | inr le ↦
      let lt : j < i = let differ = apart_places in omega (arith, differ) in
      let busy : is_busy_at es i ≡ true = busy_at (entry_at es i) es j i lt inn known.1 (meet_busy (entry_at es j) (entry_at es i) (let a = at in omega arith) (let a = known.0 in let r = rise_i in omega arith)) in
      let most : max i j ≡ i = omega arith in
      let least : min i j ≡ j = omega arith in
      rw (most, least, set-get_or last c 0)
      (swept_skip es m cores s i last (λ k l e. let same = starts_differ es k i law.tickets (omega arith) (omega arith) (e ∙ sym at) in omega arith)
      (swept_less es m cores s first i last (omega arith) busy h))
]
  where
    c : ℕ
    c = (entry_at es i).core

    j : ℕ
    j = get_or last c 0

    im : i < m
    im = let w = h.within in omega arith

    jm : j < m
    jm = let w = h.within in omega arith

    inn : i ≤ length es
    inn = let b = law.below in omega arith

    jn : j ≤ length es
    jn = let b = law.below in omega arith

    known : ((entry_at es j).start < s) × ((entry_at es j).core ≡ c)
    known = h.started c (law.own i im) jm

    rise_i : (entry_at es i).start ≤ (entry_at es i).end_at
    rise_i = rise_when es law.tickets i no_entry (let b = law.below in omega arith)

    apart_places : i ≡ j → ⊥
    apart_places e = let a = ap (λ k. (entry_at es k).start) e in let b = known.0 in omega arith

-- The step if entry i starts after the end of the last entry j that started on its core.
pub step_next : (es : List Entry) (m cores first i j : ℕ) (last : List ℕ) → AreLawful es m cores → i < first → j ≡ get_or last (entry_at es i).core 0 → (j < first → (entry_at es j).end_at < (entry_at es i).start)
    → Swept es m cores (entry_at es i).start first last → Swept es m cores ((entry_at es i).start + 1) first (set last (entry_at es i).core i)
step_next es m cores first i j last law li is free h =
    swept_next es m cores (entry_at es i).start first i last law li refl (subst (λ x. x < first → (entry_at es x).end_at < (entry_at es i).start) is free) h

-- The step if the two intervals meet.
pub step_meets : (es : List Entry) (m cores first i j : ℕ) (last : List ℕ) → AreLawful es m cores → i < first → j ≡ get_or last (entry_at es i).core 0 → j < first → (entry_at es i).start ≤ (entry_at es j).end_at
    → Swept es m cores (entry_at es i).start first last → Swept es m cores ((entry_at es i).start + 1) (max i j) (set last (entry_at es i).core (min i j))
step_meets es m cores first i j last law li is lj meets h =
    rw is
    (swept_meets es m cores (entry_at es i).start first i last law li refl (subst (λ x. x < first) is lj) (subst (λ x. (entry_at es i).start ≤ (entry_at es x).end_at) is meets) h)

-- After all tickets: no entry before the first found overlaps an earlier one.
pub swept_all : (es : List Entry) (m cores s first : ℕ) (last : List ℕ) → AreLawful es m cores → 2 * length es ≤ s → Swept es m cores s first last → least (is_busy_at es) first ≡ None
swept_all es m cores s first last law le h =
    none_at_all (is_busy_at es) first (λ i l.
    free_at (entry_at es i) es i (let w = h.within in let b = law.below in omega arith) (λ k lt c. apart_free (entry_at es k) (entry_at es i) (h.apart k i (omega arith) l (λ e. omega arith) (low k (omega arith)) (low i l) c)))
  where
    low : (k : ℕ) → k < first → (entry_at es k).start < s
    low k l =
        let n : k < length es = let w = h.within in let b = law.below in omega arith in
        let f = fits_when es k (least_none (breaks_tickets es) k (length es) n law.tickets) in
        omega (arith, f.0, f.1)
