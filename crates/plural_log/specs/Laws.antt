-- Reading what was printed.
use Rattle.std.specs.Prelude.{◌≡◌, ℕ, IsTrue}
use Rattle.std.specs.List.{All}
use Rattle.plural_bytes.specs.Lines.{content_lines}
use Rattle.plural_sections.specs.Faults.{IsFaultless, closed}
use Rattle.plural_base.specs.Names.{is_name}
use Rattle.plural_map.specs.Value.{TaskValue, MapValue}
use Rattle.plural_map.specs.Limits.{IsMap}
use Rattle.plural_trace.specs.Logs.{LogValue, IsLog}
use Rattle.plural_log.specs.Print.{log_text}
use Rattle.plural_log.specs.Spelled.{log_of}
use Rattle.plural_log.specs.Faults.{Breaks}

-- The content lines of a printed log have no fault and spell the log, whichever line closes them.
abbrev pub LogRoundTrip : Type 0
LogRoundTrip = (m : MapValue) (log : LogValue) (end : ℕ) → IsMap m
    → All (λ (t : TaskValue). IsTrue (is_name t.name)) m.tasks → IsLog m log
    → IsFaultless (Breaks m.tasks) (closed (content_lines (log_text m log)) end)
    × (log_of m.tasks (content_lines (log_text m log)) ≡ log)
