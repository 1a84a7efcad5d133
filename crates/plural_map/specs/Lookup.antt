-- Tasks found by their names, and names by their numbers.
use Rattle.std.specs.Prelude.{ℕ, Bool, List, [], slice_get, bytes_eq}
use Rattle.std.specs.List.{list_any, position_or_len}
use Rattle.std.specs.Option.{option_map_or}
use Rattle.plural_map.specs.Value.{TaskValue}

-- One of the tasks has the name.
abbrev pub has_task : List TaskValue → List ℕ → Bool
has_task tasks name = list_any (λ t. bytes_eq t.name name) tasks

-- The number of the first task of this name.
abbrev pub number_of : List ℕ → List TaskValue → ℕ
number_of name ts = position_or_len (λ t. bytes_eq t.name name) ts

-- The name of the task of a number.
abbrev pub name_at : List TaskValue → ℕ → List ℕ
name_at tasks t = option_map_or (λ task. task.name) (slice_get tasks t) []
