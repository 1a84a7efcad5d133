-- Numbers below a bound of which none stands twice.
use Rattle.std.proofs.Common.{◌≡◌, ℕ, zero, suc, ◌+◌, ◌<◌, ◌≤◌, Bool, true, false, eqb, List, [], ◌∷◌, length, get_or, refl, sym, ap, ◌∙◌, inl, inr, arith}
use Rattle.std.specs.List.{AllByRecursion}
use Rattle.std.proofs.lemmas.Bool.{eq-eqb, ne_eqb, cases_order, true≢false}
use Rattle.plural_map.specs.Order.{is_among}
use Rattle.plural_map.proofs.OrderLemmas.{among_at}
use Rattle.plural_map.proofs.OrderPlaces.{one_if, hits}
use Rattle.plural_map.proofs.OrderCuts.{Distinct}

hits_past : (n x : ℕ) (xs : List ℕ) → n ≤ x → hits n (x ∷ xs) ≡ hits n xs
hits_past zero x xs h = refl
hits_past (suc n) x xs h = let e : eqb x n ≡ false = ne_eqb x n (λ s. omega arith) in rw (e, hits_past n x xs (omega arith)) refl

hits_new : (n x : ℕ) (xs : List ℕ) → x < n → is_among x xs ≡ false → hits n (x ∷ xs) ≡ hits n xs + 1
hits_new zero x xs l new = absurd (omega arith)
hits_new (suc n) x xs l new = elim (cases_order x n) [
  | inl same ↦
      let past = hits_past n x xs (omega arith) in
      let here : is_among n xs ≡ false = ap (λ (y : ℕ). is_among y xs) (sym same) ∙ new in
      rw (eq-eqb x n same, past, here) (omega arith)
  | inr (inl lt) ↦ let more = hits_new n x xs lt new in rw (ne_eqb x n (λ e. omega arith), more) (omega arith)
  | inr (inr gt) ↦ absurd (omega arith)
]

-- There are as many of them as the list is long.
pub hits_length : (n : ℕ) (xs : List ℕ) → Distinct xs → AllByRecursion (λ x. x < n) xs → hits n xs ≡ length xs
hits_length n [] d h = none n
  where
    none : (n : ℕ) → hits n [] ≡ 0
    none zero = refl
    none (suc n) = omega (arith, none n)
hits_length n (x ∷ xs) d h = let one = hits_new n x xs h.0 d.0 in let more = hits_length n xs d.1 h.1 in omega (arith, one, more)

most : (b : Bool) → one_if b ≤ 1
most true = omega arith
most false = omega arith

hits_most : (n : ℕ) (xs : List ℕ) → hits n xs ≤ n
hits_most zero xs = omega arith
hits_most (suc n) xs = let one = most (is_among n xs) in omega (arith, hits_most n xs, one)

hits_missing : (n t : ℕ) (xs : List ℕ) → t < n → is_among t xs ≡ false → hits n xs + 1 ≤ n
hits_missing zero t xs l e = absurd (omega arith)
hits_missing (suc n) t xs l e = elim (cases_order t n) [
  | inl same ↦
      let here : is_among n xs ≡ false = ap (λ (y : ℕ). is_among y xs) (sym same) ∙ e in
      rw here (omega (arith, hits_most n xs))
  | inr (inl lt) ↦ let one = most (is_among n xs) in omega (arith, hits_missing n t xs lt e, one)
  | inr (inr gt) ↦ absurd (omega arith)
]

-- The list is no longer than the bound.
pub distinct_few : (n : ℕ) (xs : List ℕ) → Distinct xs → AllByRecursion (λ x. x < n) xs → length xs ≤ n
distinct_few n xs d h = omega (arith, hits_length n xs d h, hits_most n xs)

-- If it is as long, it has each number below the bound.
pub distinct_all : (n : ℕ) (xs : List ℕ) → Distinct xs → AllByRecursion (λ x. x < n) xs → length xs ≡ n → (t : ℕ) → t < n → is_among t xs ≡ true
distinct_all n xs d h many t l = by (is_among t xs) refl
  where
    by : (b : Bool) → is_among t xs ≡ b → is_among t xs ≡ true
    by true e = e
    by false e = absurd (omega (arith, hits_length n xs d h, hits_missing n t xs l e))

-- Numbers at different places differ.
pub distinct_places : (xs : List ℕ) (i j : ℕ) → Distinct xs → i < j → j < length xs → get_or xs i 0 ≡ get_or xs j 0 → ⊥
distinct_places [] i j d lt l e = absurd (omega arith)
distinct_places (x ∷ xs) zero zero d lt l e = absurd (omega arith)
distinct_places (x ∷ xs) zero (suc j) d lt l e =
    true≢false (sym (among_at xs j (omega arith)) ∙ (ap (λ (y : ℕ). is_among y xs) (sym e) ∙ d.0))
distinct_places (x ∷ xs) (suc i) zero d lt l e = absurd (omega arith)
distinct_places (x ∷ xs) (suc i) (suc j) d lt l e = distinct_places xs i j d.1 (omega arith) (omega arith) e
