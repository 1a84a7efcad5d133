-- What delivering an instance leaves of what a seat knew. (This project's own.)
use Rattle.std.specs.Prelude.{ℕ, ◌≡◌, ◌≤◌, slice_index}
use Rattle.std.specs.List.{Contains}
use Rattle.plural_map.specs.declared.outcome.Outcome.{Outcome}
use Rattle.plural_words.specs.Seen.{SeatSeen}

-- The seat is the same one at the same stage, with as many looks and losses; it has found no less, and has told all
-- that it had told.
pub record IsKept (old new : SeatSeen) : Type 0 where
  pub table : new.table ≡ old.table
  pub core : new.core ≡ old.core
  pub stage : new.view.stage ≡ old.view.stage
  pub looks : new.view.looks ≡ old.view.looks
  pub losses : new.view.losses ≡ old.view.losses
  pub found : (t : ℕ) → slice_index old.view.found t ≤ slice_index new.view.found t
  pub told : (x : ℕ × Outcome) → Contains old.view.told x → Contains new.view.told x
