-- A source and a sink in memory, as contracts see them.
use Rattle.std.specs.Prelude.{ℕ, Bool, List, ◌==◌}
use Rattle.std.specs.List.{list_any}

-- What a source in memory has: the bytes left, at most how many it gives in a call, the numbers of the calls that
-- fail, and how many calls and failures there were.
pub record Supply : Type 0 where
  pub left : List ℕ
  pub piece : ℕ
  pub fail : List ℕ
  pub calls : ℕ
  pub faults : ℕ

-- What a sink in memory has: the bytes taken, how many it takes in all and at most in a call, the numbers of the
-- calls that fail, and how many calls and failures there were.
pub record Drain : Type 0 where
  pub holds : List ℕ
  pub room : ℕ
  pub piece : ℕ
  pub fail : List ℕ
  pub calls : ℕ
  pub faults : ℕ

-- The call of this number is one of those that fail.
abbrev pub is_listed : List ℕ → ℕ → Bool
is_listed fail call = list_any (λ c. c == call) fail
