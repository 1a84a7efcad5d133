-- The entries of the first instances, by task and number. (This project's own.)
use Rattle.std.specs.Prelude.{ℕ, ◌≡◌, ◌+◌, ◌≤◌, ◌==◌, nat_lt, ◌&&◌, ◌||◌, Bool, cond, List, length}
use Rattle.std.specs.List.{All}
use Rattle.plural_trace.specs.declared.entry.Entry.{Entry}
use Rattle.plural_order.specs.Sums.{sign}
use Rattle.plural_rule.specs.Opening.{IsInstance}
use Rattle.plural_rule.specs.Layout.{instances_before}
use Rattle.plural_words.specs.Closing.{ClosedSeen}
use Rattle.plural_finished.specs.Finishing.{says, IsEntryIn, entries_of}

-- Instance (u, l) is of a task before task t, or is one of the first k of task t.
abbrev pub is_earlier : (t k u l : ℕ) → Bool
is_earlier t k u l = nat_lt u t || (u == t && nat_lt l k)

-- The entries are those of the done instances among the earlier ones, one of each.
pub record HasEntered (c : ClosedSeen) (t k : ℕ) (es : List Entry) : Type 0 where
  pub few : length es ≤ instances_before c.opening.program t + k
  pub own : All (IsEntryIn c) es
  pub one : (u l : ℕ) → IsInstance c.opening.program u l
      → entries_of u l es ≡ cond (is_earlier t k u l) (sign ((says c).done u l)) 0
