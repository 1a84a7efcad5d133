-- The faults of log lines: which kinds a line has, by how many lines stand before it.
use Rattle.std.specs.Prelude.{◌≡◌, ℕ, ◌+◌, ◌-◌, Bool, true, false, not, ◌||◌, ◌&&◌, List, length, nat_le, nat_lt, bytes_eq, ◌==◌}
use Rattle.plural_bytes.specs.Lines.{TextLine}
use Rattle.plural_sections.specs.LineKinds.{BreaksBy, BreaksClosed}
use Rattle.plural_sections.specs.Errors.{Tells}
use Rattle.plural_map.specs.Value.{TaskValue}
use Rattle.plural_map.specs.Lookup.{name_at, has_task}
use Rattle.plural_log.specs.declared.fault.LogKind.{LogKind}
use Rattle.plural_log.specs.declared.fault.LogKind.TheVariants as kinds
use Rattle.plural_sections.specs.declared.line_error.LineError.{LineError}
use Rattle.plural_log.specs.declared.line.EndShape.{EndShape}
use Rattle.plural_log.specs.declared.line.EndShape.TheVariants as end
use Rattle.plural_log.specs.declared.line.Counts.{Counts}
use Rattle.plural_log.specs.declared.line.Times.{Times}
use Rattle.plural_log.specs.declared.line.LogLine.{LogLine}
use Rattle.plural_log.specs.declared.line.LogLine.TheVariants as line
use Rattle.plural_log.specs.Shape.{shape_of}
use Rattle.plural_log.specs.Spelled.{log_of}

-- 1: after n lines the line stands in another's place: `log` is the first, as many task lines follow as there are
-- tasks, and then entries.
abbrev pub is_out_of_place : (tasks n : ℕ) → LogLine → Bool
is_out_of_place tasks n (line.First cores) = not (n == 0)
is_out_of_place tasks n (line.Task name outcome) = not (nat_le 1 n && nat_le n tasks)
is_out_of_place tasks n (line.Run name k e c t) = nat_le n tasks

-- A trap's cause isn't 1 to 9.
abbrev pub is_no_end : EndShape → Bool
is_no_end end.Code0 = false
is_no_end end.Code1 = false
is_no_end (end.Trap cause pc) = not (nat_le 1 cause && nat_le cause 9)
is_no_end end.Spent = false

-- The number is above 4,294,967,295.
abbrev pub is_large : ℕ → Bool
is_large n = nat_lt 4294967295 n

-- One of the counts is above 4,294,967,295.
abbrev pub has_large_count : Counts → Bool
has_large_count c = is_large c.instructions || is_large c.loads || is_large c.misses || is_large c.stores

-- The core or one of the tickets is above 4,294,967,295.
abbrev pub has_large_time : Times → Bool
has_large_time t = is_large t.core || is_large t.start || is_large t.end_at

-- 2: the number of cores isn't 1 to 64, a trap's cause isn't 1 to 9, or another number is above 4,294,967,295.
abbrev pub is_out_of_range : LogLine → Bool
is_out_of_range (line.First cores) = not (nat_le 1 cores && nat_le cores 64)
is_out_of_range (line.Task name outcome) = false
is_out_of_range (line.Run name k e c t) = is_large k || is_no_end e || has_large_count c || has_large_time t

-- 3: a task line's name isn't that of the task in its place, or an entry's name is no task's.
abbrev pub is_misnamed : List TaskValue → (n : ℕ) → LogLine → Bool
is_misnamed tasks n (line.First cores) = false
is_misnamed tasks n (line.Task name outcome) = not (bytes_eq (name_at tasks (n - 1)) name)
is_misnamed tasks n (line.Run name k e c t) = not (has_task tasks name)

-- 4: a 65,537th entry: the lines before it spell 65,536 entries.
abbrev pub is_too_many : (entries : ℕ) → LogLine → Bool
is_too_many entries (line.First cores) = false
is_too_many entries (line.Task name outcome) = false
is_too_many entries (line.Run name k e c t) = nat_le 65536 entries

-- The table of kinds, for a line of a shape after n lines that spell so many entries.
abbrev pub HasKind : List TaskValue → (n entries : ℕ) → LogLine → LogKind → Type 0
HasKind tasks n entries s kinds.Form = is_out_of_place (length tasks) n s ≡ true
HasKind tasks n entries s kinds.Number = is_out_of_range s ≡ true
HasKind tasks n entries s kinds.Name = is_misnamed tasks n s ≡ true
HasKind tasks n entries s kinds.Count = is_too_many entries s ≡ true

-- The number of a kind; of a line's kinds the least is its fault.
abbrev pub rank : LogKind → ℕ
rank kinds.Form = 1
rank kinds.Number = 2
rank kinds.Name = 3
rank kinds.Count = 4

-- The faults of a line. A line without text closes the section, early if not all task lines stand before it. Of the
-- others, one without a shape has a fault of form alone, and one with a shape has those of the table.
abbrev pub Breaks : List TaskValue → List TextLine → List ℕ → LogKind → Type 0
Breaks tasks =
    BreaksClosed kinds.Form (length tasks + 1)
    (BreaksBy shape_of kinds.Form (log_of tasks) (λ n log. HasKind tasks n (length log.entries)))

-- What an error says of a section: the first fault, or that memory ran out.
abbrev pub Faults : List TaskValue → List TextLine → LineError LogKind → Type 0
Faults tasks lines error = Tells rank (Breaks tasks) lines error
