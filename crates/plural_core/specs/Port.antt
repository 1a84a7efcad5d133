-- What a port has to be for an instruction, and what it does in a step. (This project's own; no section of a standard.)
use Rattle.std.specs.Prelude.{ℕ, ◌≡◌, ◌≤◌, List, ◌++◌, ◌+◌, length, true}
use Rattle.plural_regions.specs.Rights.{may_read}
use Rattle.plural_regions.specs.declared.region.Region.{Region}
use Rattle.plural_base.specs.Told.{Told, Counted, told_after}
use Rattle.plural_core.specs.Turn.{Step}

-- The port is ready for an instruction of instance k, of which this many have completed: it may be used, each word that
-- the instance may read is lawful, and it counts no more loads and no more stores than instructions.
pub record IsReady {P : Type 0} (told : P → Told) (counts : P → Counted) (is_sound : P → Type 0) (regions : List Region)
    (k count : ℕ) (port : P) : Type 0 where
  pub sound : is_sound port
  pub lawful : (a : ℕ) → may_read regions k a ≡ true → (told port).lawful a ≡ true
  pub loads : (counts port).reads ≤ count
  pub stores : (counts port).writes ≤ count

-- The port has made a step's accesses and nothing else: it holds the step's memory, the stores are gone from those
-- expected, each list that it stood for has the step's loads appended, and the counts rose by their numbers.
pub record Makes {P : Type 0} (told : P → Told) (counts : P → Counted) (stands_for : P → List ℕ → Type 0)
    (keeps : P → P → Type 0) (is_sound : P → Type 0) (old new : P) (step : Step) : Type 0 where
  pub stored : told new ≡ told_after (length step.stores) step.memory (told old)
  pub stands : (h : List ℕ) → stands_for old h → stands_for new (h ++ step.loads)
  pub read : (counts new).reads ≡ (counts old).reads + length step.loads
  pub written : (counts new).writes ≡ (counts old).writes + length step.stores
  pub kept : keeps old new
  pub sound : is_sound new
