-- The places of labels, one more line.
use Rattle.std.proofs.Common.{◌≡◌, ℕ, ◌+◌, ◌<◌, ◌≤◌, Bool, true, false, cond, eqb, Option, Some, None, List, [], ◌∷◌, ◌++◌, length, take, get_or, refl, ap, sym, ◌∙◌, arith, inl, inr}
use Rattle.std.specs.Prelude.{not, bytes_eq, is_some, if◌then◌else◌}
use Rattle.std.specs.List.{position_or_len}
use Rattle.std.specs.Ordering.{is_eq, nat_cmp}
use Rattle.std.specs.Cmp.Lexicographic.{slice_cmp}
use Rattle.std.proofs.lemmas.Bool.{cases_lt, eq-eqb, ne_eqb, cond-true, cond-false}
use Rattle.std.proofs.lemmas.List.{take-append-le, take_at, length_push, map_more}
use Rattle.std.proofs.lemmas.List.Folds.{position_or_len_push}
use Rattle.std.proofs.lemmas.List.Sums.{sum_by-append, prefix_len-le-length}
use Rattle.std.proofs.lemmas.Map.Text.{is_eq-slice_cmp}
use Rattle.plural_bytes.specs.Lines.{TextLine}
use Rattle.plural_bytes.specs.declared.lines.Line.{Line}
use Rattle.plural_bytes.specs.Spelled.{text_line, text_lines}
use Rattle.plural_base.proofs.ListTests.{found_at, found_none}
use Rattle.plural_statement.specs.Statement.{label_of}
use Rattle.plural_asm.specs.Labels.{size_of, is_option, has_label, place_after, place_of, noted}

-- One more line adds its words to the place after the lines.
pub place_after_push : (ls : List TextLine) (l : TextLine) → place_after (ls ++ l ∷ []) ≡ place_after ls + size_of l.1
place_after_push ls l = sum_by-append (λ x. size_of x.1) ls (l ∷ []) ∙ omega arith

abbrev Pushed : List TextLine → TextLine → List ℕ → Type 0
Pushed ls l q = place_of (ls ++ l ∷ []) q ≡ noted (place_of ls q) (has_label q l) (place_after ls)

earlier : (ls : List TextLine) (l : TextLine) (q : List ℕ) → position_or_len (has_label q) ls < length ls → Pushed ls l q
earlier ls l q h =
    let p = has_label q in
    let n = position_or_len p ls in
    let differs : eqb n (length ls) ≡ false = ne_eqb n (length ls) (λ e. omega (arith, h, e)) in
    let pushed : position_or_len p (ls ++ l ∷ []) ≡ n = position_or_len_push p ls l ∙ cond-false _ _ _ differs in
    let new = found_at p (ls ++ l ∷ []) n pushed (omega (arith, h, length_push ls l)) in
    let old = found_at p ls n refl h in
    let cut : take n (ls ++ l ∷ []) ≡ take n ls = take-append-le n ls (l ∷ []) (omega (arith, h)) in
    rw (new, old, cut) refl

last : (ls : List TextLine) (l : TextLine) (q : List ℕ) (b : Bool) → has_label q l ≡ b → length ls ≤ position_or_len (has_label q) ls → Pushed ls l q
last ls l q true e h =
    let p = has_label q in
    let same : position_or_len p ls ≡ length ls = omega (arith, h, prefix_len-le-length (λ (x : TextLine). not (p x)) ls) in
    let pushed : position_or_len p (ls ++ l ∷ []) ≡ length ls = position_or_len_push p ls l ∙ cond-true _ _ _ (eq-eqb _ _ same) ∙ rw e (omega arith) in
    let new = found_at p (ls ++ l ∷ []) (length ls) pushed (omega (arith, length_push ls l)) in
    let old = found_none p ls h in
    rw (new, old, e, take_at ls (l ∷ []) (length ls) refl) refl
last ls l q false e h =
    let p = has_label q in
    let same : position_or_len p ls ≡ length ls = omega (arith, h, prefix_len-le-length (λ (x : TextLine). not (p x)) ls) in
    let pushed : position_or_len p (ls ++ l ∷ []) ≡ length ls + 1 = position_or_len_push p ls l ∙ cond-true _ _ _ (eq-eqb _ _ same) ∙ rw e refl in
    let new = found_none p (ls ++ l ∷ []) (omega (arith, pushed, length_push ls l)) in
    let old = found_none p ls h in
    rw (new, old, e) refl

-- One more line gives its label a place, if the label has none.
pub place_of_push : (ls : List TextLine) (l : TextLine) (q : List ℕ) → place_of (ls ++ l ∷ []) q ≡ noted (place_of ls q) (has_label q l) (place_after ls)
place_of_push ls l q = elim (cases_lt (position_or_len (has_label q) ls) (length ls)) [
  | inl lt ↦ earlier ls l q lt
  | inr le ↦ last ls l q (has_label q l) refl le
]

-- A map with one more label knows what was known, and the label.
pub noted_at : (old new : Option ℕ) (name q : List ℕ) (place : ℕ) → new ≡ cond (is_eq (slice_cmp nat_cmp name q)) (Some place) old → (bytes_eq name q ≡ true → is_some old ≡ false) → new ≡ noted old (bytes_eq name q) place
noted_at old new name q place e none = e ∙ rw (is_eq-slice_cmp name q) (by old (bytes_eq name q) none)
  where
    by : (old : Option ℕ) (b : Bool) → (b ≡ true → is_some old ≡ false) → cond b (Some place) old ≡ noted old b place
    by None true n = refl
    by None false n = refl
    by (Some p) true n = absurd (let f : true ≡ false = n refl in cc)
    by (Some p) false n = refl

-- Another label leaves what is known.
pub noted_false : (old : Option ℕ) (place : ℕ) → noted old false place ≡ old
noted_false None place = refl
noted_false (Some p) place = refl

-- A map in which a label that had a place was put, and then its first place again, knows what was known.
pub noted_again : (old between new : Option ℕ) (name q : List ℕ) (place first : ℕ) → between ≡ cond (is_eq (slice_cmp nat_cmp name q)) (Some place) old → new ≡ cond (is_eq (slice_cmp nat_cmp name q)) (Some first) between
    → (bytes_eq name q ≡ true → old ≡ Some first) → new ≡ noted old (bytes_eq name q) place
noted_again old between new name q place first b e had = e ∙ rw (b, is_eq-slice_cmp name q) (by (bytes_eq name q) had)
  where
    by : (t : Bool) → (t ≡ true → old ≡ Some first) → cond t (Some first) (cond t (Some place) old) ≡ noted old t place
    by true h = rw (h refl) refl
    by false h = sym (noted_false old place)

-- What is known after one more line.
pub known_more : (xs : List Line) (i : ℕ) (d : Line) (q : List ℕ) (old : Option ℕ) (here : Bool) (place : ℕ) → i < length xs → old ≡ place_of (text_lines (take i xs)) q → place ≡ place_after (text_lines (take i xs))
    → is_option (label_of (get_or xs i d).text.now) q ≡ here → noted old here place ≡ place_of (text_lines (take (i + 1) xs)) q
known_more xs i d q old here place l o p h =
    rw (o, p, ← h) (sym (ap (λ ls. place_of ls q) (map_more text_line xs i d l) ∙ place_of_push (text_lines (take i xs)) (text_line (get_or xs i d)) q))

-- The place after one more line.
pub place_more : (xs : List Line) (i : ℕ) (d : Line) (place : ℕ) → i < length xs → place ≡ place_after (text_lines (take i xs)) → place + size_of (get_or xs i d).text.now ≡ place_after (text_lines (take (i + 1) xs))
place_more xs i d place l p = rw p (sym (ap place_after (map_more text_line xs i d l) ∙ place_after_push (text_lines (take i xs)) (text_line (get_or xs i d))))

-- What is known of a name that is told is what is known of it.
pub told_is : (t : Bool) (a b : Option ℕ) → t ≡ true → a ≡ (if t then b else None) → a ≡ b
told_is true a b e h = h
told_is false a b e h = absurd (let f : false ≡ true = e in cc)

-- Two names that are told alike are known alike.
pub told_same : (t : Bool) (a b : Option ℕ) → (t ≡ true → a ≡ b) → (if t then a else None) ≡ (if t then b else None)
told_same true a b h = h refl
told_same false a b h = refl
