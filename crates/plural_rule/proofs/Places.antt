-- Lists of views that change at one place, or by one view more.
use Rattle.std.proofs.Common.{◌≡◌, ◌≢◌, ℕ, zero, suc, ◌<◌, ◌⊎◌, List, [], ◌∷◌, ◌++◌, length, set, sym, refl, ap, subst, inl, inr, ⊎_elim, arith}
use mathlib.Core.Option.{some, some-injective, some-ne-none}
use lib.ListN.{get_elem?}
use Rattle.plural_rule.specs.Rule.{Each}
use Rattle.plural_rule.specs.declared.view.View.{View}

module _ {A : Type 0} where
  -- What stands in a list that was set at a place.
  pub at_set : (l : List A) (i j : ℕ) (a b : A) → get_elem? (set l i a) j ≡ some b → ((j ≡ i) × (a ≡ b)) ⊎ ((j ≢ i) × (get_elem? l j ≡ some b))
  at_set [] i j a b e = absurd (some-ne-none b (sym e))
  at_set (x ∷ xs) zero zero a b e = inl (refl, some-injective a b e)
  at_set (x ∷ xs) zero (suc j) a b e = inr ((λ h. omega arith), e)
  at_set (x ∷ xs) (suc i) zero a b e = inr ((λ h. omega arith), e)
  at_set (x ∷ xs) (suc i) (suc j) a b e = ⊎_elim
      (λ t. inl (ap suc t.0, t.1))
      (λ t. let n = t.0 in inr ((λ h. n (omega arith)), t.1))
      (at_set xs i j a b e)

  -- Where something stands the list goes on.
  pub within : (l : List A) (i : ℕ) (x : A) → get_elem? l i ≡ some x → i < length l
  within [] i x e = absurd (some-ne-none x (sym e))
  within (y ∷ ys) zero x e = omega arith
  within (y ∷ ys) (suc i) x e = omega (arith, within ys i x e)

  -- There stands what was set there.
  pub set_here : (l : List A) (i : ℕ) (x a : A) → get_elem? l i ≡ some x → get_elem? (set l i a) i ≡ some a
  set_here [] i x a e = absurd (some-ne-none x (sym e))
  set_here (y ∷ ys) zero x a e = refl
  set_here (y ∷ ys) (suc i) x a e = set_here ys i x a e

  -- Elsewhere stands what stood there.
  pub set_else : (l : List A) (i j : ℕ) (a : A) → j ≢ i → get_elem? (set l i a) j ≡ get_elem? l j
  set_else [] i j a n = refl
  set_else (x ∷ xs) zero zero a n = absurd (n refl)
  set_else (x ∷ xs) zero (suc j) a n = refl
  set_else (x ∷ xs) (suc i) zero a n = refl
  set_else (x ∷ xs) (suc i) (suc j) a n = set_else xs i j a (λ e. n (ap suc e))

  -- A longer list has what the list has.
  pub at_longer : (l m : List A) (i : ℕ) (a : A) → get_elem? l i ≡ some a → get_elem? (l ++ m) i ≡ some a
  at_longer [] m i a e = absurd (some-ne-none a (sym e))
  at_longer (x ∷ xs) m zero a e = e
  at_longer (x ∷ xs) m (suc i) a e = at_longer xs m i a e

  -- What stands in a list with one more at its end.
  pub at_pushed : (l : List A) (a b : A) (j : ℕ) → get_elem? (l ++ a ∷ []) j ≡ some b → (get_elem? l j ≡ some b) ⊎ (a ≡ b)
  at_pushed [] a b zero e = inr (some-injective a b e)
  at_pushed [] a b (suc j) e = absurd (some-ne-none b (sym e))
  at_pushed (x ∷ xs) a b zero e = inl e
  at_pushed (x ∷ xs) a b (suc j) e = at_pushed xs a b j e

-- Each view is so after one was set: the new one is, and each other one was so or has become so.
pub each_set : (P Q : View → Type 0) (views : List View) (id : ℕ) (w : View) → Each P views → ((u : View) → P u → Q u) → Q w → Each Q (set views id w)
each_set P Q views id w all goes new j u at = ⊎_elim (λ t. subst Q t.1 new) (λ t. goes u (all j u t.1)) (at_set views id j w u at)
