-- The entries of a serial run are of the map's tasks.
use Rattle.std.proofs.Common.{ℕ, ◌+◌, ◌<◌, List, [], ◌∷◌}
use Rattle.std.specs.List.{All}
use Rattle.std.proofs.lemmas.List.Elements.{All-nil, All-cons, All-head, All-tail}
use Rattle.plural_serial.specs.declared.record_.Record.{Record}
use Rattle.plural_trace.specs.declared.entry.Entry.{Entry}
use Rattle.plural_trace.specs.SerialLog.{serial_entry, serial_entries}

-- The entries of a serial log are of tasks of the map if its records are.
pub entries_within : (n i : ℕ) (rs : List Record) → All (λ (r : Record). r.t < n) rs → All (λ (e : Entry). e.rec.t < n) (serial_entries i rs)
entries_within n i [] h = All-nil (λ (e : Entry). e.rec.t < n)
entries_within n i (r ∷ rs) h =
    All-cons (λ (e : Entry). e.rec.t < n) (serial_entry i r) (serial_entries (i + 1) rs) (All-head (λ (r : Record). r.t < n) r rs h) (entries_within n (i + 1) rs (All-tail (λ (r : Record). r.t < n) r rs h))
