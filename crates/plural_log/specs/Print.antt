-- The canonical lines of a log: single spaces, decimal numbers without leading zeros, a trap's pc as eight hexadecimal
-- digits in lower case.
use Rattle.std.specs.Prelude.{ℕ, List, [], ◌∷◌, ◌++◌, codes, flat_map}
use Rattle.std.specs.Fmt.{decimal}
use Rattle.plural_bytes.specs.Hexadecimal.{hex_text}
use Rattle.plural_core.specs.declared.end.End.{End}
use Rattle.plural_core.specs.declared.end.End.TheVariants as end
use Rattle.plural_map.specs.declared.outcome.Outcome.{Outcome}
use Rattle.plural_map.specs.declared.outcome.Outcome.TheVariants as outcome
use Rattle.plural_map.specs.Value.{TaskValue, MapValue}
use Rattle.plural_map.specs.Lookup.{name_at}
use Rattle.plural_serial.specs.declared.record_.Record.{Record}
use Rattle.plural_trace.specs.declared.entry.Entry.{Entry}
use Rattle.plural_trace.specs.Logs.{LogValue}

-- `ended 0`, `ended 1`, `skipped` or `failed`.
abbrev pub outcome_text : Outcome → List ℕ
outcome_text outcome.Ended0 = codes "ended 0"
outcome_text outcome.Ended1 = codes "ended 1"
outcome_text outcome.Skipped = codes "skipped"
outcome_text outcome.Failed = codes "failed"

-- task NAME ended 0, task NAME ended 1, task NAME skipped, task NAME failed
abbrev pub task_text : TaskValue → Outcome → List ℕ
task_text t o = codes "task " ++ (t.name ++ (codes " " ++ (outcome_text o ++ codes "\n")))

-- The lines of tasks and their outcomes, one by one.
abbrev pub task_texts : List TaskValue → List Outcome → List ℕ
task_texts (t ∷ ts) (o ∷ os) = task_text t o ++ task_texts ts os
task_texts ts os = []

-- `code 0`, `code 1`, `trap X pc PPPPPPPP` or `spent`.
abbrev pub end_text : End → List ℕ
end_text end.Code0 = codes "code 0"
end_text end.Code1 = codes "code 1"
end_text (end.Trap cause pc) = codes "trap " ++ (decimal cause ++ (codes " pc " ++ hex_text 8 pc))
end_text end.Exhausted = codes "spent"

-- ` n I loads L misses M stores S`
abbrev pub counts_text : Record → List ℕ
counts_text r =
    codes " n " ++ (decimal r.instructions ++ (codes " loads " ++ (decimal r.loads
    ++ (codes " misses " ++ (decimal r.misses ++ (codes " stores " ++ decimal r.stores))))))

-- ` core C from A to B` and the line's end.
abbrev pub times_text : Entry → List ℕ
times_text e =
    codes " core " ++ (decimal e.core ++ (codes " from " ++ (decimal e.start
    ++ (codes " to " ++ (decimal e.end_at ++ codes "\n")))))

-- run NAME K END n I loads L misses M stores S core C from A to B
abbrev pub entry_text : List TaskValue → Entry → List ℕ
entry_text tasks e =
    codes "run " ++ (name_at tasks e.rec.t ++ (codes " " ++ (decimal e.rec.k ++ (codes " " ++ (end_text e.rec.«end»
    ++ (counts_text e.rec ++ times_text e))))))

-- The lines of a log: the number of its cores, a line for each task, a line for each entry.
abbrev pub log_text : MapValue → LogValue → List ℕ
log_text m log =
    (codes "log 1 cores " ++ (decimal log.cores ++ codes "\n"))
    ++ (task_texts m.tasks log.outcomes ++ flat_map (entry_text m.tasks) log.entries)
