-- What the reader finds of one line.
use Rattle.std.specs.Prelude.{◌≡◌, ℕ, ◌+◌, ◌<◌, List, [], Option, Some, None, length}
use Rattle.std.specs.Option.{option_map_or}
use Rattle.plural_sections.specs.LineKinds.{HasNone, IsLineFault, IsClosedFault}
use Rattle.plural_map.specs.Value.{TaskValue}
use Rattle.plural_trace.specs.Logs.{LogValue}
use Rattle.plural_log.specs.declared.fault.LogKind.{LogKind}
use Rattle.plural_log.specs.declared.fault.LogKind.TheVariants as kinds
use Rattle.plural_log.specs.declared.judge_line.FaultlessLine.{FaultlessLine}
use Rattle.plural_log.specs.Shape.{shape_of}
use Rattle.plural_log.specs.Spelled.{with_line}
use Rattle.plural_log.specs.Numbers.{task_of}
use Rattle.plural_log.specs.Faults.{HasKind, rank}

-- What is known of a line that has no fault, after n lines that spell so many entries: it has no text, and closes a
-- section that has all task lines; or it has a shape without a kind, and this is the number of the task that it names.
abbrev pub IsFine : List TaskValue → (n entries : ℕ) → List ℕ → Option FaultlessLine → Type 0
IsFine tasks n entries text None = (text ≡ []) × (length tasks < n)
IsFine tasks n entries text (Some s) =
    (Some s.line ≡ shape_of text) × HasNone (HasKind tasks n entries s.line) × (s.task ≡ task_of tasks s.line)

-- The fault of a line with a text, after n lines that spell so many entries.
abbrev pub IsShapeFault : List TaskValue → (n entries : ℕ) → List ℕ → LogKind → Type 0
IsShapeFault tasks n entries text kind = IsLineFault rank kinds.Form (HasKind tasks n entries) (shape_of text) kind

-- The fault of a line after n lines that spell so many entries. A line without text closes the section.
abbrev pub IsFaultAt : List TaskValue → (n entries : ℕ) → List ℕ → LogKind → Type 0
IsFaultAt tasks n entries text kind =
    IsClosedFault kinds.Form (length tasks + 1) n (IsShapeFault tasks n entries) text kind

-- The log after what one more line was read as; the line that closes the section changes nothing.
abbrev pub with_read : List TaskValue → LogValue → Option FaultlessLine → LogValue
with_read tasks log read = option_map_or (λ s. with_line tasks log s.line) read log
