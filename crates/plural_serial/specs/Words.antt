-- A flat memory: its words, and how often it was read and written.
use Rattle.std.specs.Prelude.{ℕ, List}

-- A flat memory as contracts see it.
pub record Words : Type 0 where
  pub words : List ℕ
  pub reads : ℕ
  pub writes : ℕ
