-- Sums over views, and what was handed out, as numbers.
use Rattle.std.proofs.Common.{◌≡◌, ◌≢◌, ℕ, zero, suc, ◌+◌, ◌<◌, ◌≤◌, List, [], ◌∷◌, set, sym, refl, ap, arith, cond, lt-ltb, le-ltb}
use mathlib.Core.Logic.{dite}
use native.Mathlib.Decide.{ℕ_discrete, dec_le}
use mathlib.Core.Option.{some, some-injective, some-ne-none}
use lib.ListN.{get_elem?}
use Rattle.plural_order.specs.Sums.{sum_over, sign}
use Rattle.plural_counters.proofs.Sums.{sum_set, term_at, sum_le, sign_none}
use Rattle.plural_rule.specs.Rule.{handed}

module _ {A : Type 0} (g : A → ℕ) where
  -- A step that keeps g of the view keeps the sum.
  pub sum_kept : (l : List A) (i : ℕ) (v w : A) → get_elem? l i ≡ some v → g w ≡ g v → sum_over g (set l i w) ≡ sum_over g l
  sum_kept l i v w e same = omega (arith, sum_set g l i v w e)

  -- Two terms together are no more than the sum.
  pub terms_at : (l : List A) (i j : ℕ) (v u : A) → j ≢ i → get_elem? l i ≡ some v → get_elem? l j ≡ some u → g v + g u ≤ sum_over g l
  terms_at [] i j v u n e d = absurd (some-ne-none v (sym e))
  terms_at (x ∷ xs) zero zero v u n e d = absurd (n refl)
  terms_at (x ∷ xs) zero (suc j) v u n e d = omega (arith, ap g (some-injective x v e), term_at g xs j u d)
  terms_at (x ∷ xs) (suc i) zero v u n e d = omega (arith, ap g (some-injective x u d), term_at g xs i v e)
  terms_at (x ∷ xs) (suc i) (suc j) v u n e d = omega (arith, terms_at xs i j v u (λ h. n (ap suc h)) e d)

  -- A sum of nothing but 0 is 0.
  pub sum_nothing : (l : List A) → ((j : ℕ) (v : A) → get_elem? l j ≡ some v → g v ≡ 0) → sum_over g l ≡ 0
  sum_nothing [] h = refl
  sum_nothing (x ∷ xs) h = omega (arith, h 0 x refl, sum_nothing xs (λ j v e. h (suc j) v e))

  -- A sum that isn't 0 has a term at some place that isn't.
  pub sum_somewhere : (l : List A) → 1 ≤ sum_over g l → (j : ℕ) × (v : A) × (get_elem? l j ≡ some v) × (1 ≤ g v)
  sum_somewhere [] h = absurd (omega arith)
  sum_somewhere (x ∷ xs) h = dite (ℕ_discrete (g x) 0)
      (λ z. let p = sum_somewhere xs (omega arith) in (suc p.0, p.1, p.2, p.3))
      (λ ne. (0, x, refl, omega arith))

-- If h is nowhere above g, their sums differ by no less than they do at one place.
pub sum_less : {A : Type 0} (g h : A → ℕ) (l : List A) (j : ℕ) (v : A) → ((u : A) → h u ≤ g u) → get_elem? l j ≡ some v → sum_over h l + g v ≤ sum_over g l + h v
sum_less g h [] j v less e = absurd (some-ne-none v (sym e))
sum_less g h (x ∷ xs) zero v less e = let s : x ≡ v = some-injective x v e in omega (arith, ap g s, ap h s, sum_le h g xs less)
sum_less g h (x ∷ xs) (suc j) v less e = omega (arith, sum_less g h xs j v less e, less x)

-- A sign of 1 is that of a number above 0.
pub sign_yes : (n : ℕ) → sign n ≡ 1 → 0 < n
sign_yes n h = dite (ℕ_discrete n 0) (λ e. absurd (omega (arith, sign_none n e))) (λ ne. omega arith)

-- An instance below what was handed out was handed out.
pub handed_yes : (n k : ℕ) → k + 1 < n → handed n k ≡ 1
handed_yes n k h = ap (λ b. cond b 1 0) (lt-ltb (k + 1) n h)

-- One beyond it was not.
pub handed_no : (n k : ℕ) → n ≤ k + 1 → handed n k ≡ 0
handed_no n k h = ap (λ b. cond b 1 0) (le-ltb (k + 1) n h)

-- It counts for one at most.
pub handed_le : (n k : ℕ) → handed n k ≤ 1
handed_le n k = dite (dec_le n (k + 1)) (λ h. omega (arith, handed_no n k h)) (λ h. omega (arith, handed_yes n k (omega arith)))

-- Who handed out an instance is armed.
pub handed_some : (n k : ℕ) → handed n k ≡ 1 → 1 ≤ n
handed_some n k e = dite (dec_le n (k + 1)) (λ h. absurd (omega (arith, handed_no n k h))) (λ h. omega arith)
