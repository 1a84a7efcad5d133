-- The log of a serial run.
use Rattle.std.specs.Prelude.{ℕ, ◌+◌, ◌*◌, List, [], ◌∷◌}
use Rattle.plural_serial.specs.declared.record_.Record.{Record}
use Rattle.plural_serial.specs.Answer.{AnswerValue}
use Rattle.plural_trace.specs.declared.entry.Entry.{Entry}
use Rattle.plural_trace.specs.Logs.{LogValue}

-- The entry of the i-th record: on core 0, with the tickets 2i and 2i + 1.
abbrev pub serial_entry : (i : ℕ) → Record → Entry
serial_entry i r = record { rec = r; core = 0; start = 2 * i; end_at = 2 * i + 1 }

-- The entries of records, of which the first is the i-th.
abbrev pub serial_entries : (i : ℕ) → List Record → List Entry
serial_entries i [] = []
serial_entries i (r ∷ rs) = serial_entry i r ∷ serial_entries (i + 1) rs

-- One core, the outcomes, an entry for each record in their order.
abbrev pub serial_log : AnswerValue → LogValue
serial_log a = record { cores = 1; outcomes = a.outcomes; entries = serial_entries 0 a.records }
