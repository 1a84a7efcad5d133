-- Tasks by their names, one more task.
use Rattle.std.proofs.Common.{◌≡◌, ℕ, suc, ◌+◌, ◌<◌, Bool, true, false, cond, eqb, ltb, Option, Some, None, List, [], ◌∷◌, ◌++◌, length, take, get_or, refl, ap, sym, ◌∙◌, arith, inl, inr}
use Rattle.std.specs.Prelude.{not, ◌||◌, bytes_eq, position, is_some}
use Rattle.std.specs.List.{position_or_len}
use Rattle.std.specs.Ordering.{is_eq, nat_cmp}
use Rattle.std.specs.Cmp.Lexicographic.{slice_cmp}
use Rattle.std.proofs.lemmas.Bool.{cases_lt, lt-ltb, le-ltb, eq-eqb, ne_eqb, cond-true, cond-false}
use Rattle.std.proofs.lemmas.Bool.Decides.{nat_tests}
use Rattle.std.proofs.lemmas.List.{length_push, length-take-le, take_more}
use Rattle.std.proofs.lemmas.List.Folds.{position_or_len_push}
use Rattle.std.proofs.lemmas.List.Sums.{prefix_len-le-length}
use Rattle.std.proofs.lemmas.Map.Text.{is_eq-slice_cmp}
use Rattle.plural_map.specs.Value.{TaskValue}
use Rattle.plural_map.specs.Lookup.{number_of, has_task}
use Rattle.std.specs.Option.{option_or}
use Rattle.plural_log.specs.Numbers.{number_for}

-- The first place that passes, one more element.
position_push : {X : Type 0} (p : X → Bool) (xs : List X) (y : X) → position p (xs ++ y ∷ []) ≡ option_or (position p xs) (cond (p y) (Some (length xs)) None)
position_push p xs y = elim (cases_lt n (length xs)) [
  | inl lt ↦
      let pushed : position_or_len p (xs ++ y ∷ []) ≡ n = position_or_len_push p xs y ∙ cond-false _ _ _ (ne_eqb n (length xs) (λ e. omega arith)) in
      rw (pushed, lt-ltb n (length (xs ++ y ∷ [])) (omega (arith, length_push xs y)), lt-ltb n (length xs) lt) refl
  | inr le ↦
      let same : n ≡ length xs = omega (arith, prefix_len-le-length (λ x. not (p x)) xs) in
      by (p y) (position_or_len_push p xs y ∙ cond-true _ _ _ (eq-eqb n (length xs) same)) ∙ ap (λ o. option_or o (cond (p y) (Some (length xs)) None)) (sym (cond-false _ _ _ (le-ltb n (length xs) le)))
]
  where
    n : ℕ
    n = position_or_len p xs

    m : ℕ
    m = position_or_len p (xs ++ y ∷ [])

    by : (b : Bool) → m ≡ length xs + cond b 0 1 → cond (ltb m (length (xs ++ y ∷ []))) (Some m) None ≡ cond b (Some (length xs)) None
    by true e =
        let at : m ≡ length xs = omega arith in
        rw (at, lt-ltb (length xs) (length (xs ++ y ∷ [])) (omega (arith, length_push xs y))) refl
    by false e = cond-false _ _ _ (le-ltb m (length (xs ++ y ∷ [])) (omega (arith, length_push xs y)))

-- The numbers of one more task.
pub number_more : (ts : List TaskValue) (i : ℕ) (d : TaskValue) (q : List ℕ) → i < length ts → number_for (take (i + 1) ts) q ≡ option_or (number_for (take i ts) q) (cond (bytes_eq (get_or ts i d).name q) (Some i) None)
number_more ts i d q l =
    ap (λ xs. number_for xs q) (take_more ts i d l) ∙ position_push (λ t. bytes_eq t.name q) (take i ts) (get_or ts i d)
    ∙ ap (λ n. option_or (number_for (take i ts) q) (cond (bytes_eq (get_or ts i d).name q) (Some n) None)) (length-take-le i ts (omega arith))

-- A name that had no number has this one now.
pub noted_at : (old new : Option ℕ) (name q : List ℕ) (t : ℕ) → new ≡ cond (is_eq (slice_cmp nat_cmp name q)) (Some t) old → (bytes_eq name q ≡ true → is_some old ≡ false) → new ≡ option_or old (cond (bytes_eq name q) (Some t) None)
noted_at old new name q t e none = e ∙ rw (is_eq-slice_cmp name q) (by old (bytes_eq name q) none)
  where
    by : (old : Option ℕ) (b : Bool) → (b ≡ true → is_some old ≡ false) → cond b (Some t) old ≡ option_or old (cond b (Some t) None)
    by None true n = refl
    by None false n = refl
    by (Some p) true n = absurd (let f : true ≡ false = n refl in cc)
    by (Some p) false n = refl

-- A name is no task's if its number is the number of tasks.
pub misnamed_by : (ts : List TaskValue) (name : List ℕ) → eqb (number_of name ts) (length ts) ≡ not (has_task ts name)
misnamed_by [] name = refl
misnamed_by (t ∷ ts) name = by (bytes_eq t.name name) (misnamed_by ts name)
  where
    by : (b : Bool) → eqb (number_of name ts) (length ts) ≡ not (has_task ts name) → eqb (cond (not b) (1 + number_of name ts) 0) (suc (length ts)) ≡ not (b || has_task ts name)
    by true h = grind (arith, nat_tests)
    by false h = (let e : eqb (1 + number_of name ts) (suc (length ts)) ≡ eqb (number_of name ts) (length ts) = grind (arith, nat_tests) in e) ∙ h
