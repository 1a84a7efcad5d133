-- A seat as it is later, and how much is left to find. (This project's own.)
use Rattle.std.specs.Prelude.{ℕ, ◌≡◌, ◌+◌, ◌-◌, ◌≤◌, slice_index}
use Rattle.std.specs.List.{Contains}
use Rattle.plural_map.specs.declared.outcome.Outcome.{Outcome}
use Rattle.plural_serial.specs.Program.{ProgramValue}
use Rattle.plural_order.specs.Sums.{sum_below}
use Rattle.plural_rule.specs.Opening.{task_count, quota_of}
use Rattle.plural_rule.specs.declared.view.View.{View}
use Rattle.plural_words.specs.Seen.{SeatSeen}

-- It is the same seat; it has found no less, and has told all that it had told.
pub record IsLater (old new : SeatSeen) : Type 0 where
  pub table : new.table ≡ old.table
  pub core : new.core ≡ old.core
  pub found : (t : ℕ) → slice_index old.view.found t ≤ slice_index new.view.found t
  pub told : (x : ℕ × Outcome) → Contains old.view.told x → Contains new.view.told x

-- How much the alloc words can still rise over what the view has found, over all tasks.
unfoldable pub to_find : ProgramValue → View → ℕ
to_find p v = sum_below (λ t. 1 + quota_of p t - slice_index v.found t) (task_count p)
