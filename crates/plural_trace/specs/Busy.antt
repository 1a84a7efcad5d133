-- Intervals of one core that overlap, at a place.
use Rattle.std.specs.Prelude.{ℕ, ◌≡◌, ◌*◌, ◌<◌, Bool, List, length, take, slice_index}
use Rattle.plural_trace.specs.declared.entry.Entry.{Entry}
use Rattle.plural_trace.specs.Rules.{entry_at, is_busy}

-- The interval of the entry at place i overlaps one of its core among the earlier entries.
abbrev pub is_busy_at : List Entry → (i : ℕ) → Bool
is_busy_at es i = is_busy (entry_at es i) (take i es)

-- At each ticket below twice the number of entries, if an entry of the first m is there, it starts at this ticket.
abbrev pub AreStarts : List Entry → (m : ℕ) → (starts : List ℕ) → Type 0
AreStarts es m starts = (s : ℕ) → s < 2 * length es → slice_index starts s < m
    → (entry_at es (slice_index starts s)).start ≡ s

-- Each of the first m entries is there at its start.
abbrev pub HasStarts : List Entry → (m : ℕ) → (starts : List ℕ) → Type 0
HasStarts es m starts = (k : ℕ) → k < m → slice_index starts (entry_at es k).start ≡ k
