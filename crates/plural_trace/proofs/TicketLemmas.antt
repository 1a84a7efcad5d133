-- Tickets: the test by marks, and what holds of fine tickets.
use Rattle.std.proofs.Common.{◌≡◌, ℕ, zero, suc, ◌+◌, ◌*◌, ◌<◌, ◌≤◌, Bool, true, false, not, ◌||◌, eqb, ltb, List, [], ◌∷◌, length, take, set, get_or, None, refl, sym, ap, ◌∙◌, arith}
use Rattle.std.specs.List.{All}
use Rattle.std.proofs.lemmas.List.{length-set, get_or_default}
use Rattle.std.proofs.lemmas.List.Folds.{list_any_more}
use Rattle.std.proofs.lemmas.Bool.{or_parts}
use Rattle.std.proofs.lemmas.Bool.Decides.{nat_tests}
use Rattle.plural_trace.specs.Least.{least}
use Rattle.plural_trace.specs.Rules.{no_entry, entry_at, is_ticket, is_drawn, breaks_tickets}
use Rattle.plural_trace.specs.declared.entry.Entry.{Entry}
use Rattle.plural_trace.proofs.LeastPlaces.{least_none}

-- The tickets of one more entry.
is_drawn-next : (x i : ℕ) (es : List Entry) → i < length es → is_drawn x (take (i + 1) es) ≡ (is_drawn x (take i es) || (eqb (entry_at es i).start x || eqb (entry_at es i).end_at x))
is_drawn-next x i es lt = list_any_more (is_ticket x) es i no_entry lt

-- Four tests of which one or the other passes don't if none does.
pub four_false : (a b c d : Bool) → (a || b || c || d) ≡ false → (a ≡ false) × (b ≡ false) × (c ≡ false) × (d ≡ false)
four_false a b c d h =
    let p = or_parts (a || b || c) d h in
    let q = or_parts (a || b) c p.0 in
    let r = or_parts a b q.0 in
    (r.0, r.1, q.1, p.1)

or_same : (a b c d c' d' : Bool) → (a ≡ false → b ≡ false → (c ≡ c') × (d ≡ d')) → (a || b || c || d) ≡ (a || b || c' || d')
or_same true b c d c' d' h = refl
or_same false true c d c' d' h = refl
or_same false false c d c' d' h = let e = h refl refl in ap (λ x. x || d) e.0 ∙ ap (λ x. c' || x) e.1

-- A number that a test finds below another is below it.
pub below_when : (a b : ℕ) → not (ltb a b) ≡ false → a < b
below_when a b e = grind (arith, nat_tests)

-- The test by marks is the test by looking back.
pub tickets_test : (es : List Entry) (marks : List Bool) (i : ℕ) → ((x : ℕ) → x < 2 * length es → get_or marks x false ≡ is_drawn x (take i es)) →
    (not (ltb (entry_at es i).start (entry_at es i).end_at) || not (ltb (entry_at es i).end_at (2 * length es)) || get_or marks (entry_at es i).start false || get_or marks (entry_at es i).end_at false) ≡ breaks_tickets es i
tickets_test es marks i h =
    let e = entry_at es i in
    or_same _ _ _ _ _ _ (λ a b.
    let x : e.start < e.end_at = below_when e.start e.end_at a in
    let y : e.end_at < 2 * length es = below_when e.end_at (2 * length es) b in
    (h e.start (omega arith), h e.end_at y))

-- Fine tickets are an interval below twice the number of entries.
pub fits_when : (es : List Entry) (i : ℕ) → breaks_tickets es i ≡ false → ((entry_at es i).start < (entry_at es i).end_at) × ((entry_at es i).end_at < 2 * length es)
fits_when es i e =
    let o = four_false _ _ _ _ e in
    (below_when (entry_at es i).start (entry_at es i).end_at o.0, below_when (entry_at es i).end_at (2 * length es) o.1)

mark_two : (m : List Bool) (s t x : ℕ) → s < length m → t < length m → get_or (set (set m s true) t true) x false ≡ (get_or m x false || (eqb s x || eqb t x))
mark_two m s t x ls lt =
    mark (set m s true) t x (omega (arith, length-set m s true)) ∙ ap (λ b. b || eqb t x) (mark m s x ls) ∙ turned (get_or m x false) (eqb s x) (eqb t x)
  where
    turned : (a b c : Bool) → ((a || b) || c) ≡ (a || (b || c))
    turned true b c = refl
    turned false b c = refl

    or_true : (b : Bool) → (b || true) ≡ true
    or_true true = refl
    or_true false = refl

    or_false : (b : Bool) → (b || false) ≡ b
    or_false true = refl
    or_false false = refl

    mark : (m : List Bool) (s x : ℕ) → s < length m → get_or (set m s true) x false ≡ (get_or m x false || eqb s x)
    mark [] s x l = absurd (let h : ⊥ = omega arith in h)
    mark (b ∷ m) zero zero l = sym (or_true b)
    mark (b ∷ m) zero (suc x) l = sym (or_false (get_or m x false)) ∙ ap (λ e. get_or m x false || e) (let z : false ≡ eqb 0 (suc x) = grind (arith, nat_tests) in z)
    mark (b ∷ m) (suc s) zero l = sym (or_false b) ∙ ap (λ e. b || e) (let z : false ≡ eqb (suc s) 0 = grind (arith, nat_tests) in z)
    mark (b ∷ m) (suc s) (suc x) l = mark m s x (omega arith) ∙ ap (λ e. get_or m x false || e) (grind (arith, nat_tests))

-- The marks of one more entry.
pub marks_next : (es : List Entry) (marks : List Bool) (i x : ℕ) → length marks ≡ 2 * length es → i < length es → breaks_tickets es i ≡ false → x < 2 * length es →
    get_or marks x false ≡ is_drawn x (take i es) →
    get_or (set (set marks (entry_at es i).start true) (entry_at es i).end_at true) x false ≡ is_drawn x (take (i + 1) es)
marks_next es marks i x room lt fine below h =
    let f = fits_when es i fine in
    let a = f.0 in let b = f.1 in
    mark_two marks (entry_at es i).start (entry_at es i).end_at x (omega arith) (omega arith)
    ∙ ap (λ m. m || (eqb (entry_at es i).start x || eqb (entry_at es i).end_at x)) h ∙ sym (is_drawn-next x i es lt)

-- Each interval starts no later than it ends.
abbrev pub AllRise : List Entry → Type 0
AllRise es = All (λ (e : Entry). e.start ≤ e.end_at) es

-- Fine tickets rise within each entry.
pub rise_when : (es : List Entry) → least (breaks_tickets es) (length es) ≡ None → AllRise es
rise_when es e = λ k d lt.
    let f = fits_when es k (least_none (breaks_tickets es) k (length es) lt e) in
    let at = get_or_default es k d no_entry lt in
    let a = ap (λ (e : Entry). e.start) at in
    let b = ap (λ (e : Entry). e.end_at) at in
    let low = f.0 in
    omega arith
