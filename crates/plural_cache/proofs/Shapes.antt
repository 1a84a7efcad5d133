-- A number of sets is a power of two.
use Rattle.std.proofs.Common.{◌≡◌, ℕ, ◌^◌, ◌<◌, Bool, true, false, ◌||◌, ◌⊎◌, inl, inr, ⊎_elim, eqb, List, [], ◌∷◌, refl, subst, arith, eqb-true}
use Rattle.std.specs.List.{list_any}
use Rattle.plural_base.specs.CacheShape.{is_set_count}

either_true : (a b : Bool) → (a || b) ≡ true → (a ≡ true) ⊎ (b ≡ true)
either_true true b h = inl refl
either_true false b h = inr h

-- P holds of each of these numbers
abbrev pub Each : (ℕ → Type 0) → List ℕ → Type 0
Each P [] = Unit {0}
Each P (m ∷ ms) = P m × Each P ms

-- What holds of each of these numbers holds of one that is among them.
at_one : (P : ℕ → Type 0) (n : ℕ) (ms : List ℕ) → Each P ms → list_any (λ k. eqb k n) ms ≡ true → P n
at_one P n [] h t = cc
at_one P n (m ∷ ms) h t =
    ⊎_elim (λ (e : eqb m n ≡ true). subst P (eqb-true m n e) h.0) (at_one P n ms h.1) (either_true (eqb m n) (list_any (λ k. eqb k n) ms) t)

pub record IsPower (n : ℕ) : Type 0 where
  pub exponent : ℕ
  pub is : n ≡ 2 ^ exponent

power : (n e : ℕ) → n ≡ 2 ^ e → IsPower n
power n e h = record { exponent = e; is = h }

-- A number of sets is a power of two.
pub power_of : (n : ℕ) → is_set_count n ≡ true → IsPower n
power_of n =
    at_one IsPower n (1 ∷ 2 ∷ 4 ∷ 8 ∷ 16 ∷ 32 ∷ 64 ∷ [])
    (power 1 0 refl, (power 2 1 refl, (power 4 2 refl, (power 8 3 refl, (power 16 4 refl, (power 32 5 refl, (power 64 6 refl, tt)))))))

-- A number of sets is not 0.
pub some_sets : (n : ℕ) → is_set_count n ≡ true → 0 < n
some_sets n =
    at_one (λ m. 0 < m) n (1 ∷ 2 ∷ 4 ∷ 8 ∷ 16 ∷ 32 ∷ 64 ∷ [])
    (omega arith, (omega arith, (omega arith, (omega arith, (omega arith, (omega arith, (omega arith, tt)))))))
