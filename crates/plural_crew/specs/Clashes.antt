-- Clashes: two instances that may run at the same time have a word in common that one of them may write.
use Rattle.std.specs.Prelude.{ℕ, ◌≡◌, ◌≢◌, ◌⊎◌, ◌<◌, ◌≤◌, List}
use Rattle.plural_regions.specs.declared.region.Region.{Region}
use Rattle.plural_regions.specs.Rights.{InReads, InWrites}
use Rattle.plural_regions.specs.Meeting.{IsNoLater}
use Rattle.plural_map.specs.Value.{TaskValue, task_of}
use Rattle.plural_reach.specs.Chains.{Before}
use Rattle.plural_reach.specs.Branches.{Exclusive}

-- The regions of the task of this number; a number without a task has none.
abbrev pub regions_of : List TaskValue → ℕ → List Region
regions_of tasks t = (task_of tasks t).regions

-- How many instances the task of this number has; a number without a task has none.
abbrev pub quota_of : List TaskValue → ℕ → ℕ
quota_of tasks t = (task_of tasks t).quota

-- Instances of the tasks may run at the same time: the two are one task, or neither comes before the other and they
-- aren't exclusive branches.
abbrev pub MayOverlap : List TaskValue → (t u : ℕ) → Type 0
MayOverlap tasks t u = (t ≡ u) ⊎ ((Before tasks t u → ⊥) × (Before tasks u t → ⊥) × (Exclusive tasks t u → ⊥))

-- Instance k of task t and instance l of task u clash at word a: they are different instances, their tasks may run at
-- the same time, each may read the word, and one of them may write it.
pub record IsClash (tasks : List TaskValue) (t k u l a : ℕ) : Type 0 where
  pub first : k < quota_of tasks t
  pub second : l < quota_of tasks u
  pub differ : (t ≢ u) ⊎ (k ≢ l)
  pub overlap : MayOverlap tasks t u
  pub first_reads : InReads (regions_of tasks t) k a
  pub second_reads : InReads (regions_of tasks u) l a
  pub writes : InWrites (regions_of tasks t) k a ⊎ InWrites (regions_of tasks u) l a

-- The instances stand in their normal order: by their tasks, and within one task by their numbers.
pub record InOrder (t k u l : ℕ) : Type 0 where
  pub tasks : t ≤ u
  pub instances : t ≡ u → k < l

-- The map has no clash.
abbrev pub IsAccepted : List TaskValue → Type 0
IsAccepted tasks = (t k u l a : ℕ) → IsClash tasks t k u l a → ⊥

-- The clash is the first: of those in normal order it is the least, by the first task, the second task, the instance of
-- the first, the instance of the second, and the word.
pub record IsFirstClash (tasks : List TaskValue) (t k u l a : ℕ) : Type 0 where
  pub clash : IsClash tasks t k u l a
  pub ordered : InOrder t k u l
  pub first : (v i w j b : ℕ) → IsClash tasks v i w j b → InOrder v i w j → t ≤ v
  pub second : (i w j b : ℕ) → IsClash tasks t i w j b → InOrder t i w j → u ≤ w
  pub least : (i j b : ℕ) → IsClash tasks t i u j b → InOrder t i u j → IsNoLater k l a i j b
