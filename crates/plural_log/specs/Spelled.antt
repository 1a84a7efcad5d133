-- The log that log lines spell.
use Rattle.std.specs.Prelude.{ℕ, List, [], ◌∷◌, ◌++◌}
use Rattle.plural_bytes.specs.Lines.{TextLine}
use Rattle.plural_sections.specs.LineKinds.{spelled_by}
use Rattle.plural_core.specs.declared.end.End.{End}
use Rattle.plural_core.specs.declared.end.End.TheVariants as ended
use Rattle.plural_map.specs.declared.outcome.Outcome.{Outcome}
use Rattle.plural_map.specs.Value.{TaskValue}
use Rattle.plural_map.specs.Lookup.{number_of}
use Rattle.plural_trace.specs.declared.entry.Entry.{Entry}
use Rattle.plural_log.specs.declared.line.EndShape.{EndShape}
use Rattle.plural_log.specs.declared.line.EndShape.TheVariants as end
use Rattle.plural_log.specs.declared.line.Counts.{Counts}
use Rattle.plural_log.specs.declared.line.Times.{Times}
use Rattle.plural_log.specs.declared.line.LogLine.{LogLine}
use Rattle.plural_log.specs.declared.line.LogLine.TheVariants as line
use Rattle.plural_trace.specs.Logs.{LogValue}
use Rattle.plural_log.specs.Shape.{shape_of}

-- The end that an entry's line tells.
abbrev pub end_value : EndShape → End
end_value end.Code0 = ended.Code0
end_value end.Code1 = ended.Code1
end_value (end.Trap cause pc) = ended.Trap cause pc
end_value end.Spent = ended.Exhausted

-- The entry of an entry's line.
abbrev pub entry_value : List TaskValue → List ℕ → ℕ → EndShape → Counts → Times → Entry
entry_value tasks name k e c t = record {
  rec = record {
    t = number_of name tasks;
    k = k;
    «end» = end_value e;
    instructions = c.instructions;
    loads = c.loads;
    misses = c.misses;
    stores = c.stores;
  };
  core = t.core;
  start = t.start;
  end_at = t.end_at;
}

-- The log after one more line.
abbrev pub with_line : List TaskValue → LogValue → LogLine → LogValue
with_line tasks log (line.First cores) = record log { cores = cores }
with_line tasks log (line.Task name outcome) = record log { outcomes = log.outcomes ++ outcome ∷ [] }
with_line tasks log (line.Run name k e c t) =
    record log { entries = log.entries ++ entry_value tasks name k e c t ∷ [] }

-- The log of these parts.
abbrev pub log_by : (cores : ℕ) → List Outcome → List Entry → LogValue
log_by cores outcomes entries = record { cores = cores; outcomes = outcomes; entries = entries }

-- The log before any line.
abbrev pub nothing : LogValue
nothing = record { cores = 0; outcomes = []; entries = [] }

-- The log that lines spell.
abbrev pub log_of : List TaskValue → List TextLine → LogValue
log_of tasks lines = spelled_by shape_of (with_line tasks) nothing lines
