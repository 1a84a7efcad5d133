-- The least place that has a property.
use Rattle.std.specs.Prelude.{ℕ, zero, suc, ◌<◌, Bool, if◌then◌else◌, Option, Some, None}
use Rattle.std.specs.Option.{option_or}

-- The least place below n at which the test holds, if there is one.
abbrev pub least : (ℕ → Bool) → ℕ → Option ℕ
least p zero = None
least p (suc n) = option_or (least p n) (if p n then Some n else None)

-- No place below n has the property.
abbrev pub Nowhere : (ℕ → Type 0) → ℕ → Type 0
Nowhere P n = (i : ℕ) → i < n → P i → ⊥

-- It is the least place below n that has the property; or, if it is none, no place below n has it.
abbrev pub IsLeast : (ℕ → Type 0) → ℕ → Option ℕ → Type 0
IsLeast P n (Some i) = (i < n) × P i × Nowhere P i
IsLeast P n None = Nowhere P n
