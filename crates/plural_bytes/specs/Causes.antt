-- When a fault of the outside may be answered.
use Rattle.std.specs.Prelude.{ℕ, ◌≡◌, ◌+◌, ◌-◌, ◌^◌, min, Result, OnOk, OnErr}

-- One more, if a u64 holds it; else the last u64.
abbrev pub one_more : ℕ → ℕ
one_more n = min (n + 1) (2 ^ 64 - 1)

-- A count of faults rose by one, or stands at the last value of a u64.
abbrev pub Rose : ℕ → ℕ → Type 0
Rose before now = now ≡ one_more before

-- An error comes with one more fault, and with no error the count of faults stays.
pub record HasCause {T E : Type 0} (before now : ℕ) (result : Result T E) : Type 0 where
  pub failed : OnErr result (Rose before now)
  pub unfailed : OnOk result (now ≡ before)
