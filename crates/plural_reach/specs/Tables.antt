-- What the computed tables say, and when they are those of a map.
use Rattle.std.specs.Prelude.{ℕ, ◌≡◌, ◌<◌, ◌↔◌, Bool, true, List, length}
use Rattle.plural_map.specs.Value.{TaskValue}
use Rattle.plural_reach.specs.declared.tables.Reach.{Reach}
use Rattle.plural_reach.specs.declared.tables.Needs.{Needs}
use Rattle.plural_reach.specs.Chains.{Before}
use Rattle.plural_reach.specs.Branches.{NeedsCode}
use Rattle.plural_reach.specs.Rows.{row}

-- The table says that task t comes before task u.
abbrev pub says_before : Reach → (t u : ℕ) → Bool
says_before r t u = row r.before u t

-- The table is that of the tasks: it says of each task exactly which come before it.
pub record IsReachOf (r : Reach) (tasks : List TaskValue) : Type 0 where
  pub exact : (t u : ℕ) → u < length tasks → (says_before r t u ≡ true) ↔ Before tasks t u

-- The table is that of the tasks: it says of each task exactly which codes of which tasks it needs.
pub record IsNeedsOf (n : Needs) (tasks : List TaskValue) : Type 0 where
  pub zero : (t p : ℕ) → t < length tasks → (row n.zero t p ≡ true) ↔ NeedsCode tasks t p 0
  pub one : (t p : ℕ) → t < length tasks → (row n.one t p ≡ true) ↔ NeedsCode tasks t p 1
