-- The latest ends decide what starts too early.
use Rattle.std.proofs.Common.{◌≡◌, ℕ, zero, suc, ◌+◌, ◌<◌, ◌≤◌, max, Bool, true, false, not, ◌||◌, ◌&&◌, eqb, ltb, cond, List, [], ◌∷◌, length, take, set, get_or, refl, sym, ap, ◌∙◌, subst, arith, eq-eqb, eqb-true, inl, inr, ⊎_elim}
use Rattle.std.specs.Prelude.{All}
use Rattle.std.proofs.lemmas.Bool.{cases_Bool, cases_lt, lt-ltb, le-ltb}
use Rattle.std.proofs.lemmas.Bool.Decides.{nat_tests}
use Rattle.std.proofs.lemmas.List.{get_or-set_same, get_or-set_other}
use Rattle.std.proofs.lemmas.List.Elements.{All-head, All-tail}
use Rattle.plural_map.specs.Value.{TaskValue}
use Rattle.plural_reach.specs.declared.tables.Reach.{Reach}
use Rattle.plural_reach.specs.Tables.{IsReachOf, says_before}
use Rattle.plural_trace.specs.Rules.{no_entry, entry_at, BreaksOrder, breaks_cores}
use Rattle.plural_trace.specs.Least.{least}
use Rattle.plural_trace.proofs.LeastPlaces.{least_same}
use Rattle.plural_trace.specs.Busy.{is_busy_at}
use Rattle.plural_trace.specs.Ends.{latest_end, latest_before, AreLeastStarts}
use Rattle.plural_trace.specs.declared.entry.Entry.{Entry}

-- By a test of which tasks come before which: one of the entries is of a task before task u, and its end isn't below
-- this start.
abbrev ends_late : (ℕ → ℕ → Bool) → (u start : ℕ) → List Entry → Bool
ends_late before u start [] = false
ends_late before u start (e ∷ es) = (before e.rec.t u && not (ltb e.end_at start)) || ends_late before u start es

latest_end-next : (t i : ℕ) (es : List Entry) → i < length es → latest_end t (take (i + 1) es) ≡ max (latest_end t (take i es)) (cond (eqb (entry_at es i).rec.t t) ((entry_at es i).end_at + 1) 0)
latest_end-next t i es lt = ap (λ n. latest_end t (take n es)) (let s : i + 1 ≡ suc i = omega arith in s) ∙ more t i es lt
  where
    more : (t i : ℕ) (es : List Entry) → i < length es → latest_end t (take (suc i) es) ≡ max (latest_end t (take i es)) (cond (eqb (entry_at es i).rec.t t) ((entry_at es i).end_at + 1) 0)
    more t i [] lt = absurd (let h : ⊥ = omega arith in h)
    more t zero (e ∷ es) lt = omega arith
    more t (suc i) (e ∷ es) lt = ap (λ n. max (cond (eqb e.rec.t t) (e.end_at + 1) 0) n) (more t i es (omega arith)) ∙ turned _ (latest_end t (take i es)) _
      where
        turned : (a b c : ℕ) → max a (max b c) ≡ max (max a b) c
        turned a b c = omega arith

-- The latest ends with one more entry.
pub ends_next : (es : List Entry) (ends : List ℕ) (i t n : ℕ) → length ends ≡ n → i < length es → (entry_at es i).rec.t < n → t < n → ((t : ℕ) → t < n → get_or ends t 0 ≡ latest_end t (take i es)) →
    get_or (set ends (entry_at es i).rec.t (max (get_or ends (entry_at es i).rec.t 0) ((entry_at es i).end_at + 1))) t 0 ≡ latest_end t (take (i + 1) es)
ends_next es ends i t n long lt own below h =
    let e = entry_at es i in
    let m = max (get_or ends e.rec.t 0) (e.end_at + 1) in
    ⊎_elim
    (λ k. let is = eqb-true e.rec.t t k in
    subst (λ t. get_or (set ends e.rec.t m) t 0 ≡ latest_end t (take (i + 1) es)) is
    (get_or-set_same ends e.rec.t m 0 (omega arith)
    ∙ ap (λ x. max x (e.end_at + 1)) (h e.rec.t own)
    ∙ ap (λ b. max (latest_end e.rec.t (take i es)) (cond b (e.end_at + 1) 0)) (sym (eq-eqb e.rec.t e.rec.t refl))
    ∙ sym (latest_end-next e.rec.t i es lt)))
    (λ k. get_or-set_other ends e.rec.t t m 0 (λ q. absurd (cc (sym k ∙ eq-eqb e.rec.t t (sym q))))
    ∙ h t below
    ∙ (let z : latest_end t (take i es) ≡ max (latest_end t (take i es)) 0 = omega arith in z)
    ∙ ap (λ b. max (latest_end t (take i es)) (cond b (e.end_at + 1) 0)) (sym k)
    ∙ sym (latest_end-next t i es lt))
    (cases_Bool (eqb e.rec.t t))

-- The same over the entries.
abbrev latest_of : (ℕ → ℕ → Bool) → (u : ℕ) → List Entry → (n : ℕ) → ℕ
latest_of before u es zero = 0
latest_of before u es (suc n) = max (latest_of before u es n) (cond (before n u) (latest_end n es) 0)

latest_same : (before : ℕ → ℕ → Bool) (u : ℕ) (ends : List ℕ) (es : List Entry) (n : ℕ) → ((t : ℕ) → t < n → get_or ends t 0 ≡ latest_end t es) → latest_before before u ends n ≡ latest_of before u es n
latest_same before u ends es zero h = refl
latest_same before u ends es (suc n) h =
    ap (λ m. max m (cond (before n u) (get_or ends n 0) 0)) (latest_same before u ends es n (λ t lt. h t (omega arith)))
    ∙ ap (λ x. max (latest_of before u es n) (cond (before n u) x 0)) (h n (omega arith))

latest_none : (before : ℕ → ℕ → Bool) (u n : ℕ) → latest_of before u [] n ≡ 0
latest_none before u zero = refl
latest_none before u (suc n) = elim (before n u) as (λ b. max (latest_of before u [] n) (cond b 0 0) ≡ 0) [ true ↦ omega (arith, latest_none before u n) | false ↦ omega (arith, latest_none before u n) ]

step : (t n E x y z : ℕ) (be bn : Bool) → (t ≡ n → be ≡ bn) → x ≡ max (cond (ltb t n && be) E 0) y → max x (cond bn (max (cond (eqb t n) E 0) z) 0) ≡ max (cond (ltb t (suc n) && be) E 0) (max y (cond bn z 0))
step t n E x y z true true h e = grind (arith, nat_tests)
step t n E x y z true false h e = grind (arith, nat_tests)
step t n E x y z false true h e = grind (arith, nat_tests)
step t n E x y z false false h e = grind (arith, nat_tests)

latest_cons : (before : ℕ → ℕ → Bool) (u : ℕ) (e : Entry) (es : List Entry) (n : ℕ) → latest_of before u (e ∷ es) n ≡ max (cond (ltb e.rec.t n && before e.rec.t u) (e.end_at + 1) 0) (latest_of before u es n)
latest_cons before u e es zero = grind (arith, nat_tests)
latest_cons before u e es (suc n) =
    step e.rec.t n (e.end_at + 1) (latest_of before u (e ∷ es) n) (latest_of before u es n) (latest_end n es) (before e.rec.t u) (before n u) (λ k. ap (λ t. before t u) k) (latest_cons before u e es n)

test_max : (s a b : ℕ) → ltb s (max a b) ≡ (ltb s a || ltb s b)
test_max s a b = grind (arith, nat_tests)

test_one : (s x : ℕ) (b : Bool) → ltb s (cond b (x + 1) 0) ≡ (b && not (ltb x s))
test_one s x true = grind (arith, nat_tests)
test_one s x false = grind (arith, nat_tests)

late_test : (before : ℕ → ℕ → Bool) (u s : ℕ) (es : List Entry) (n : ℕ) → All (λ (e : Entry). e.rec.t < n) es → ltb s (latest_of before u es n) ≡ ends_late before u s es
late_test before u s [] n h = ap (λ m. ltb s m) (latest_none before u n) ∙ (let z : ltb s 0 ≡ false = grind (arith, nat_tests) in z)
late_test before u s (e ∷ es) n h =
    let own : e.rec.t < n = All-head (λ (e : Entry). e.rec.t < n) e es h in
    let in_range : ltb e.rec.t n ≡ true = grind (arith, nat_tests) in
    ap (λ m. ltb s m) (latest_cons before u e es n)
    ∙ test_max s (cond (ltb e.rec.t n && before e.rec.t u) (e.end_at + 1) 0) (latest_of before u es n)
    ∙ ap (λ b. ltb s (cond (b && before e.rec.t u) (e.end_at + 1) 0) || ltb s (latest_of before u es n)) in_range
    ∙ ap (λ b. b || ltb s (latest_of before u es n)) (test_one s e.end_at (before e.rec.t u))
    ∙ ap (λ b. (before e.rec.t u && not (ltb e.end_at s)) || b) (late_test before u s es n (All-tail (λ (e : Entry). e.rec.t < n) e es h))

-- An entry that ends late, among those of a list.
record IsLate (before : ℕ → ℕ → Bool) (u start : ℕ) (es : List Entry) : Type 0 where
  at : ℕ
  there : at < length es
  first : before (entry_at es at).rec.t u ≡ true
  ends : start ≤ (entry_at es at).end_at

late_found : (before : ℕ → ℕ → Bool) (u start : ℕ) (es : List Entry) → ends_late before u start es ≡ true → IsLate before u start es
late_found before u start [] h = absurd cc
late_found before u start (e ∷ es) h = by (before e.rec.t u) (ltb e.end_at start) (λ k. late_found before u start es k) refl refl h
  where
    later : IsLate before u start es → IsLate before u start (e ∷ es)
    later f = let l = f.there in record { at = suc f.at; there = omega arith; first = f.first; ends = f.ends }

    by : (a b : Bool) → (ends_late before u start es ≡ true → IsLate before u start es) → before e.rec.t u ≡ a → ltb e.end_at start ≡ b
        → ((a && not b) || ends_late before u start es) ≡ true → IsLate before u start (e ∷ es)
    by true false rest p q k = record { at = 0; there = omega arith; first = p; ends = grind (arith, nat_tests) }
    by true true rest p q k = later (rest k)
    by false b rest p q k = later (rest k)

late_there : (before : ℕ → ℕ → Bool) (u start : ℕ) (es : List Entry) (k : ℕ) → k < length es → before (entry_at es k).rec.t u ≡ true → start ≤ (entry_at es k).end_at
    → ends_late before u start es ≡ true
late_there before u start [] k l b e = absurd (omega arith)
late_there before u start (e ∷ es) zero l b h = rw (b, le-ltb e.end_at start h) refl
late_there before u start (e ∷ es) (suc k) l b h = or_right (before e.rec.t u && not (ltb e.end_at start)) (late_there before u start es k (omega arith) b h)
  where
    or_right : (a : Bool) {b : Bool} → b ≡ true → (a || b) ≡ true
    or_right true h = refl
    or_right false h = h

-- Ends and bounds of the tasks of a map, by the table of which come before which.
pub record AreBounds (tasks : List TaskValue) (es : List Entry) (r : Reach) (latest limits : List ℕ) : Type 0 where
  pub own : All (λ (e : Entry). e.rec.t < length tasks) es
  pub table : IsReachOf r tasks
  pub ends : (t : ℕ) → t < length tasks → get_or latest t 0 ≡ latest_end t es
  pub bounds : (u : ℕ) → u < length tasks → get_or limits u 0 ≡ latest_before (says_before r) u latest (length tasks)

-- The bounds by what was told of the ends of so many tasks.
pub bounds_from : (tasks : List TaskValue) (es : List Entry) (r : Reach) (n : ℕ) (told ends bounds : List ℕ) → All (λ (e : Entry). e.rec.t < n) es → IsReachOf r tasks → n ≡ length tasks → ends ≡ told
    → length told ≡ n → ((t : ℕ) → t < n → get_or told t 0 ≡ latest_end t es) → ((u : ℕ) → u < length ends → get_or bounds u 0 ≡ latest_before (says_before r) u ends (length ends))
    → AreBounds tasks es r ends bounds
bounds_from tasks es r n told ends bounds own table many same long each limits =
    let length_is : length ends ≡ length tasks = ap length same ∙ long ∙ many in
    record {
      own = rw many at own;
      table = table;
      ends = λ t l. ap (λ (xs : List ℕ). get_or xs t 0) same ∙ each t (omega (arith, l, many));
      bounds = rw length_is at limits;
    }

bound_test : (tasks : List TaskValue) (es : List Entry) (r : Reach) (ends bounds : List ℕ) (i : ℕ) → AreBounds tasks es r ends bounds → i < length es
    → ltb (entry_at es i).start (get_or bounds (entry_at es i).rec.t 0) ≡ ends_late (says_before r) (entry_at es i).rec.t (entry_at es i).start es
bound_test tasks es r ends bounds i h l =
    let e = entry_at es i in
    ap (λ m. ltb e.start m) (h.bounds e.rec.t (h.own i no_entry l) ∙ latest_same (says_before r) e.rec.t ends es (length tasks) h.ends)
    ∙ late_test (says_before r) e.rec.t e.start es (length tasks) h.own

-- An entry that starts below its task's bound breaks the rule.
order_breaks : (tasks : List TaskValue) (es : List Entry) (r : Reach) (ends bounds : List ℕ) (i : ℕ) → AreBounds tasks es r ends bounds → i < length es
    → (entry_at es i).start < get_or bounds (entry_at es i).rec.t 0 → BreaksOrder tasks es i
order_breaks tasks es r ends bounds i h l low =
    let e = entry_at es i in
    let f = late_found (says_before r) e.rec.t e.start es (sym (bound_test tasks es r ends bounds i h l) ∙ lt-ltb e.start (get_or bounds e.rec.t 0) low) in
    record { late = f.at; there = f.there; before = (h.table.exact (entry_at es f.at).rec.t e.rec.t (h.own i no_entry l)).0 f.first; ends = f.ends }

-- An entry that doesn't start below its task's bound keeps the rule.
order_kept : (tasks : List TaskValue) (es : List Entry) (r : Reach) (ends bounds : List ℕ) (i : ℕ) → AreBounds tasks es r ends bounds → i < length es
    → get_or bounds (entry_at es i).rec.t 0 ≤ (entry_at es i).start → BreaksOrder tasks es i → ⊥
order_kept tasks es r ends bounds i h l high b =
    let e = entry_at es i in
    let late = late_there (says_before r) e.rec.t e.start es b.late b.there ((h.table.exact (entry_at es b.late).rec.t e.rec.t (h.own i no_entry l)).1 b.before) b.ends in
    let f : true ≡ false = sym late ∙ sym (bound_test tasks es r ends bounds i h l) ∙ le-ltb e.start (get_or bounds e.rec.t 0) high in
    cc

-- So the rule is broken exactly below the bounds.
pub bounds_exact : (tasks : List TaskValue) (es : List Entry) (r : Reach) (ends bounds : List ℕ) → AreBounds tasks es r ends bounds → AreLeastStarts tasks es bounds
bounds_exact tasks es r ends bounds h i l = (
  order_breaks tasks es r ends bounds i h l,
  (λ b. elim (cases_lt (entry_at es i).start (get_or bounds (entry_at es i).rec.t 0)) [
    | inl lt ↦ lt
    | inr le ↦ absurd (order_kept tasks es r ends bounds i h l le b)
  ]),
)

-- If each core is one, the rule on cores is the one on intervals.
pub cores_below : (cores : ℕ) (es : List Entry) (m : ℕ) → ((k : ℕ) (d : Entry) → k < m → (get_or es k d).core < cores) → least (breaks_cores cores es) m ≡ least (is_busy_at es) m
cores_below cores es m own =
    least_same (breaks_cores cores es) (is_busy_at es) m (λ i lt.
    let low : (entry_at es i).core < cores = own i no_entry lt in
    let test : ltb (entry_at es i).core cores ≡ true = grind (arith, nat_tests) in
    ap (λ b. not b || is_busy_at es i) test)

-- An entry whose core is none breaks the rule on cores.
pub foreign_at : (cores : ℕ) (es : List Entry) (m : ℕ) → cores ≤ (entry_at es m).core → breaks_cores cores es m ≡ true
foreign_at cores es m h =
    let test : ltb (entry_at es m).core cores ≡ false = grind (arith, nat_tests) in
    ap (λ b. not b || is_busy_at es m) test
