-- Tickets that are marked when they are drawn.
use Rattle.std.specs.Prelude.{ℕ, Bool, false, not, ◌||◌, nat_lt, List, slice_index_or}
use Rattle.plural_trace.specs.declared.entry.Entry.{Entry}

-- The start of the entry isn't below its end, the end isn't below the limit, or one of the two is marked.
abbrev pub is_misdrawn : (marks : List Bool) → Entry → (limit : ℕ) → Bool
is_misdrawn marks e limit =
    not (nat_lt e.start e.end_at) || not (nat_lt e.end_at limit)
    || slice_index_or marks e.start false || slice_index_or marks e.end_at false
