-- The shapes of log lines.
use Rattle.std.specs.Prelude.{ℕ, ◌&&◌, List, [], ◌∷◌, Option, Some, None, option_map, option_and_then, codes, bytes_eq, if◌then◌else◌}
use Rattle.plural_bytes.specs.Lines.{tokens}
use Rattle.plural_base.specs.Names.{name_of}
use Rattle.plural_sections.specs.Numbers.{capped_numeral, first_numeral, word_token}
use Rattle.plural_map.specs.declared.outcome.Outcome.{Outcome}
use Rattle.plural_map.specs.declared.outcome.Outcome.TheVariants as outcome
use Rattle.plural_log.specs.declared.line.EndShape.{EndShape}
use Rattle.plural_log.specs.declared.line.EndShape.TheVariants as end
use Rattle.plural_log.specs.declared.line.Counts.{Counts}
use Rattle.plural_log.specs.declared.line.Times.{Times}
use Rattle.plural_log.specs.declared.line.LogLine.{LogLine}
use Rattle.plural_log.specs.declared.line.LogLine.TheVariants as line

-- log 1 cores N
abbrev pub first_line : List (List ℕ) → Option LogLine
first_line (v ∷ c ∷ n ∷ []) =
    if bytes_eq v (codes "1") && bytes_eq c (codes "cores")
    then option_map (λ cores. line.First cores) (capped_numeral n)
    else None
first_line ts = None

-- `ended 0`, `ended 1`, `skipped` or `failed`.
abbrev pub outcome_of : List (List ℕ) → Option Outcome
outcome_of (w ∷ []) =
    if bytes_eq w (codes "skipped") then Some outcome.Skipped
    else if bytes_eq w (codes "failed") then Some outcome.Failed
    else None
outcome_of (w ∷ c ∷ []) =
    if bytes_eq w (codes "ended")
    then (if bytes_eq c (codes "0") then Some outcome.Ended0
    else if bytes_eq c (codes "1") then Some outcome.Ended1
    else None)
    else None
outcome_of ts = None

-- task NAME ended 0, task NAME ended 1, task NAME skipped, task NAME failed
abbrev pub task_line : List (List ℕ) → Option LogLine
task_line (n ∷ ts) = option_and_then (λ name. option_map (λ o. line.Task name o) (outcome_of ts)) (name_of n)
task_line [] = None

-- A word and a number before tokens: the number, and the tokens after it.
abbrev pub field : List ℕ → List (List ℕ) → Option (ℕ × List (List ℕ))
field word (w ∷ ts) = if bytes_eq w word then first_numeral ts else None
field word [] = None

-- The times, if no token is left.
abbrev pub at_end : List (List ℕ) → Times → Option Times
at_end [] times = Some times
at_end (t ∷ ts) times = None

-- n I loads L misses M stores S, and the tokens after.
abbrev pub counts_of : List (List ℕ) → Option (Counts × List (List ℕ))
counts_of ts =
    option_and_then (λ i.
    option_and_then (λ l.
    option_and_then (λ m.
    option_map (λ s. (record { instructions = i.0; loads = l.0; misses = m.0; stores = s.0 }, s.1))
    (field (codes "stores") m.1))
    (field (codes "misses") l.1))
    (field (codes "loads") i.1))
    (field (codes "n") ts)

-- core C from A to B, and nothing after.
abbrev pub times_of : List (List ℕ) → Option Times
times_of ts =
    option_and_then (λ c.
    option_and_then (λ a.
    option_and_then (λ b. at_end b.1 (record { core = c.0; start = a.0; end_at = b.0 }))
    (field (codes "to") a.1))
    (field (codes "from") c.1))
    (field (codes "core") ts)

-- trap X pc PPPPPPPP, and the tokens after.
abbrev pub trap_of : List (List ℕ) → Option (EndShape × List (List ℕ))
trap_of (x ∷ w ∷ p ∷ ts) =
    if bytes_eq w (codes "pc")
    then option_and_then (λ cause. option_map (λ pc. (end.Trap cause pc, ts)) (word_token p)) (capped_numeral x)
    else None
trap_of ts = None

-- code 0, code 1, and the tokens after.
abbrev pub code_of : List (List ℕ) → Option (EndShape × List (List ℕ))
code_of (c ∷ ts) =
    if bytes_eq c (codes "0") then Some (end.Code0, ts)
    else if bytes_eq c (codes "1") then Some (end.Code1, ts)
    else None
code_of [] = None

-- code 0, code 1, trap X pc PPPPPPPP, spent, and the tokens after.
abbrev pub end_of : List (List ℕ) → Option (EndShape × List (List ℕ))
end_of (w ∷ ts) =
    if bytes_eq w (codes "code") then code_of ts
    else if bytes_eq w (codes "trap") then trap_of ts
    else if bytes_eq w (codes "spent") then Some (end.Spent, ts)
    else None
end_of [] = None

-- run NAME K END n I loads L misses M stores S core C from A to B
abbrev pub run_line : List (List ℕ) → Option LogLine
run_line (n ∷ ts) =
    option_and_then (λ name.
    option_and_then (λ k.
    option_and_then (λ e.
    option_and_then (λ c.
    option_map (λ t. line.Run name k.0 e.0 c.0 t)
    (times_of c.1))
    (counts_of e.1))
    (end_of k.1))
    (first_numeral ts))
    (name_of n)
run_line [] = None

-- The shape of a line by its first token.
abbrev pub shape : List (List ℕ) → Option LogLine
shape [] = None
shape (w ∷ ts) =
    if bytes_eq w (codes "log") then first_line ts
    else if bytes_eq w (codes "task") then task_line ts
    else if bytes_eq w (codes "run") then run_line ts
    else None

-- The shape of a line.
abbrev pub shape_of : List ℕ → Option LogLine
shape_of text = shape (tokens text)
