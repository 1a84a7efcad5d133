-- Sums that fall with what they sum.
use Rattle.std.proofs.Common.{ℕ, zero, suc, ◌<◌, ◌≤◌, subst, arith}
use mathlib.Core.Logic.{dite}
use native.Mathlib.Decide.{ℕ_discrete}
use Rattle.plural_order.specs.Sums.{sum_below}

-- A sum is no more than one of larger numbers.
pub sum_least : (f g : ℕ → ℕ) (n : ℕ) → ((i : ℕ) → i < n → f i ≤ g i) → sum_below f n ≤ sum_below g n
sum_least f g zero h = omega arith
sum_least f g (suc n) h = omega (arith, sum_least f g n (λ i small. h i (omega arith)), h n (omega arith))

-- It is less if one of them is.
pub sum_less : (f g : ℕ → ℕ) (n t : ℕ) → ((i : ℕ) → i < n → f i ≤ g i) → t < n → f t < g t → sum_below f n < sum_below g n
sum_less f g zero t h low less = absurd (omega arith)
sum_less f g (suc n) t h low less = dite (ℕ_discrete t n)
    (λ e. let here : f n < g n = subst (λ (i : ℕ). f i < g i) e less in omega (arith, sum_least f g n (λ i small. h i (omega arith)), here))
    (λ ne. omega (arith, sum_less f g n t (λ i small. h i (omega arith)) (omega arith) less, h n (omega arith)))
