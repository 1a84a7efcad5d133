-- Records that stand by the numbers of their instances.
use Rattle.std.specs.Prelude.{ℕ, ◌≡◌, ◌+◌, ◌<◌, List, length, slice_index_or}
use Rattle.plural_serial.specs.declared.record_.Record.{Record}
use Rattle.plural_trace.specs.Rules.{no_entry}

-- The record at a place.
abbrev pub record_at : List Record → ℕ → Record
record_at records i = slice_index_or records i no_entry.rec

-- Each record stands as many places after the one at which its task begins as its instance's number says.
abbrev pub StandFrom : (begin : ℕ → ℕ) → List Record → Type 0
StandFrom begin records = (i : ℕ) → i < length records
    → i ≡ begin (record_at records i).t + (record_at records i).k

-- The records of each task stand one after the other, by the numbers of their instances from 0.
abbrev pub StandByInstance : List Record → Type 0
StandByInstance records = (begin : ℕ → ℕ) × StandFrom begin records
