-- Sums, and tests as numbers.
use Rattle.std.specs.Prelude.{ℕ, zero, suc, ◌+◌, List, [], ◌∷◌, cond, ◌==◌}

-- The sum of f over the numbers below n.
abbrev pub sum_below : (ℕ → ℕ) → (n : ℕ) → ℕ
sum_below f zero = 0
sum_below f (suc n) = sum_below f n + f n

-- The sum of f over a list.
abbrev pub sum_over : {A : Type 0} → (A → ℕ) → List A → ℕ
sum_over f [] = 0
sum_over f (x ∷ xs) = f x + sum_over f xs

-- 1 if the numbers are equal, else 0.
abbrev pub one_if : (x y : ℕ) → ℕ
one_if x y = cond (x == y) 1 0

-- 0 of 0, and 1 of every other number.
abbrev pub sign : ℕ → ℕ
sign n = cond (n == 0) 0 1

-- x if n isn't 0, else 0.
abbrev pub masked : (n x : ℕ) → ℕ
masked n x = cond (n == 0) 0 x

-- How often a number stands in a list.
abbrev pub times : ℕ → List ℕ → ℕ
times x ys = sum_over (λ y. one_if y x) ys
