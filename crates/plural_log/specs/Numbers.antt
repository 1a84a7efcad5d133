-- The numbers of tasks by their names.
use Rattle.std.specs.Prelude.{ℕ, List, Option, length, position, bytes_eq}
use Rattle.plural_map.specs.Value.{TaskValue}
use Rattle.plural_map.specs.Lookup.{number_of}
use Rattle.plural_log.specs.declared.line.LogLine.{LogLine}
use Rattle.plural_log.specs.declared.line.LogLine.TheVariants as line

-- The number of the first task of a name, if one has it.
abbrev pub number_for : List TaskValue → List ℕ → Option ℕ
number_for tasks name = position (λ t. bytes_eq t.name name) tasks

-- The number of the task that an entry's line names; the number of tasks if none has the name, and for other lines.
abbrev pub task_of : List TaskValue → LogLine → ℕ
task_of tasks (line.First cores) = length tasks
task_of tasks (line.Task name outcome) = length tasks
task_of tasks (line.Run name k e c t) = number_of name tasks
