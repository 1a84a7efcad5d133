-- The places that are known of names, from the end of their list to its beginning.
use Rattle.std.proofs.Common.{◌≡◌, ℕ, ◌+◌, ◌-◌, ◌<◌, ◌≤◌, Bool, true, false, cond, ltb, List, [], ◌∷◌, Option, Some, None, length, drop, get_or, refl, ap, subst, ◌∙◌, arith, inl, inr}
use Rattle.std.specs.Prelude.{not, bytes_eq, is_some, ◌||◌}
use Rattle.std.specs.List.{position_or_len}
use Rattle.std.specs.Ordering.{is_eq, nat_cmp}
use Rattle.std.specs.Cmp.Lexicographic.{slice_cmp}
use Rattle.std.proofs.lemmas.Bool.{cases_lt, eqb-true, eq-eqb, lt-ltb, le-ltb}
use Rattle.std.proofs.Math.Seq.{drop-length}
use Rattle.std.proofs.lemmas.List.{drop_more}
use Rattle.std.proofs.lemmas.List.Sums.{prefix_len-le-length}
use Rattle.std.proofs.lemmas.Slice.Eq.{bytes_eq-Decides}
use Rattle.std.proofs.lemmas.Map.Text.{is_eq-slice_cmp}
use Rattle.plural_map_text.specs.Parts.{place_of}
use Rattle.plural_map_text.specs.Rules.{has}
use Rattle.plural_map_text.specs.Places.{is_placed}

-- A place that is known from the beginning on is the first.
pub placed_at : (names : List (List ℕ)) (name : List ℕ) (o : Option ℕ) (place : ℕ) → o ≡ Some place → is_placed names 0 name o ≡ true → place ≡ place_of names name
placed_at names name o place e h = let t = subst (λ (x : Option ℕ). is_placed names 0 name x ≡ true) e h in omega (arith, eqb-true place (0 + place_of names name) t)

-- It is inside the list, or the list's length.
pub place_within : (names : List (List ℕ)) (name : List ℕ) → place_of names name ≤ length names
place_within names name = prefix_len-le-length (λ n. not (bytes_eq n name)) names

ltb_more : (a b : ℕ) → ltb (1 + a) (1 + b) ≡ ltb a b
ltb_more a b = elim (cases_lt a b) [
  | inl lt ↦ rw (lt-ltb (1 + a) (1 + b) (omega (arith, lt)), lt-ltb a b lt) refl
  | inr le ↦ rw (le-ltb (1 + a) (1 + b) (omega (arith, le)), le-ltb a b le) refl
]

-- The first place is inside the list exactly if a name is this one.
pub placed_inside : (names : List (List ℕ)) (name : List ℕ) → ltb (place_of names name) (length names) ≡ has names name
placed_inside [] name = refl
placed_inside (n ∷ ns) name = by (bytes_eq n name) (position_or_len (λ x. bytes_eq x name) ns) (has ns name) (length (n ∷ ns)) (omega arith) (placed_inside ns name)
  where
    by : (b : Bool) (place : ℕ) (there : Bool) (len : ℕ) → len ≡ 1 + length ns → ltb place (length ns) ≡ there → ltb (cond (not b) (1 + place) 0) len ≡ (b || there)
    by true place there len more e = lt-ltb 0 len (omega (arith, more))
    by false place there len more e = rw more (ltb_more place (length ns) ∙ e)

-- Before any element is looked at, each name is at the end.
pub placed_end : (names : List (List ℕ)) (name : List ℕ) → is_placed names (length names) name (Some (length names)) ≡ true
placed_end names name = rw (drop-length names) (eq-eqb (length names) (length names + 0) (omega arith))

-- One element more that isn't this name.
step_other : (names : List (List ℕ)) (at : ℕ) (d name : List ℕ) (o : Option ℕ) → 0 < at → at ≤ length names → bytes_eq (get_or names (at - 1) d) name ≡ false → is_placed names at name o ≡ true → is_placed names (at - 1) name o ≡ true
step_other names at d name None low l b h = refl
step_other names at d name (Some p) low l b h =
    let same : at - 1 + 1 ≡ at = omega arith in
    let next : place_of (drop (at - 1) names) name ≡ 1 + place_of (drop (at - 1 + 1) names) name = rw (drop_more names (at - 1) d (omega arith), b) refl in
    let on : place_of (drop (at - 1 + 1) names) name ≡ place_of (drop at names) name = ap (λ i. place_of (drop i names) name) same in
    let old = eqb-true p (at + place_of (drop at names) name) h in
    eq-eqb p (at - 1 + place_of (drop (at - 1) names) name) (omega (arith, next, on, old))

-- One that is this name.
step_same : (names : List (List ℕ)) (i : ℕ) (d name : List ℕ) → i < length names → bytes_eq (get_or names i d) name ≡ true → is_placed names i name (Some i) ≡ true
step_same names i d name l b =
    let here : place_of (drop i names) name ≡ 0 = rw (drop_more names i d l, b) refl in
    eq-eqb i (i + place_of (drop i names) name) (omega (arith, here))

-- A name is put at the end.
pub unplaced_more : (names : List (List ℕ)) (key name : List ℕ) (old new : Option ℕ) → new ≡ cond (is_eq (slice_cmp nat_cmp key name)) (Some (length names)) old → is_placed names (length names) name old ≡ true
    → is_placed names (length names) name new ≡ true
unplaced_more names key name old new e h = rw e (by (is_eq (slice_cmp nat_cmp key name)))
  where
    by : (b : Bool) → is_placed names (length names) name (cond b (Some (length names)) old) ≡ true
    by true = placed_end names name
    by false = h

-- One element more, which is put at its place.
pub placed_more : (names : List (List ℕ)) (at : ℕ) (key d name : List ℕ) (old new : Option ℕ) → 0 < at → at ≤ length names → key ≡ get_or names (at - 1) d → new ≡ cond (is_eq (slice_cmp nat_cmp key name)) (Some (at - 1)) old
    → is_placed names at name old ≡ true → is_placed names (at - 1) name new ≡ true
placed_more names at key d name old new low l k e h = rw (e, is_eq-slice_cmp key name, k) (by (bytes_eq (get_or names (at - 1) d) name) refl)
  where
    by : (b : Bool) → bytes_eq (get_or names (at - 1) d) name ≡ b → is_placed names (at - 1) name (cond b (Some (at - 1)) old) ≡ true
    by true t = step_same names (at - 1) d name (omega arith) t
    by false t = step_other names at d name old low l t h

-- One element more that isn't asked for.
pub placed_same : (names : List (List ℕ)) (at : ℕ) (key d name : List ℕ) (o : Option ℕ) → 0 < at → at ≤ length names → key ≡ get_or names (at - 1) d → (key ≡ name → is_some o ≡ false) → is_placed names at name o ≡ true → is_placed names (at - 1) name o ≡ true
placed_same names at key d name None low l k n h = refl
placed_same names at key d name (Some p) low l k n h = by (bytes_eq (get_or names (at - 1) d) name) refl
  where
    by : (b : Bool) → bytes_eq (get_or names (at - 1) d) name ≡ b → is_placed names (at - 1) name (Some p) ≡ true
    by true t = absurd (let f : true ≡ false = n (k ∙ (bytes_eq-Decides (get_or names (at - 1) d) name).0 t) in cc)
    by false t = step_other names at d name (Some p) low l t h
