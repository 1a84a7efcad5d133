-- The map that map lines spell.
use Rattle.std.specs.Prelude.{ℕ, Bool, true, false, List, [], ◌∷◌, ◌++◌, Option, Some, None, option_map, flat_map, bytes_eq}
use Rattle.std.specs.List.{position_or_len}
use Rattle.std.specs.Option.{option_map_or, option_to_list}
use Rattle.plural_bytes.specs.Lines.{TextLine}
use Rattle.plural_sections.specs.LineKinds.{spelled_by}
use Rattle.plural_map_text.specs.declared.line.MapLine.{MapLine}
use Rattle.plural_map_text.specs.declared.line.MapLine.TheVariants as line
use Rattle.plural_map_text.specs.declared.line.TaskKind.{TaskKind}
use Rattle.plural_map_text.specs.declared.line.TaskKind.TheVariants as kind
use Rattle.plural_map.specs.Value.{TaskValue, MapValue, with_dep, with_region, with_some}
use Rattle.plural_map_text.specs.Shape.{shape_of}
use Rattle.plural_map_text.specs.RegionOf.{region_of}
use Rattle.plural_map.specs.Order.{order_of}

-- What lines spell so far: the memory's words, the caches' shape, the task that lines belong to now, and those
-- declared before it.
pub record Parts : Type 0 where
  pub words : ℕ
  pub sets : ℕ
  pub ways : ℕ
  pub earlier : List TaskValue
  pub current : Option TaskValue

-- All tasks so far, in the order of their declaration.
abbrev pub tasks_of : Parts → List TaskValue
tasks_of p = p.earlier ++ option_to_list p.current

-- The number of instances that a task line gives: one for a regular task.
abbrev pub quota_of : TaskKind → ℕ
quota_of kind.Regular = 1
quota_of (kind.Dup quota) = quota

-- The line is that of a duplicable task.
abbrev pub is_dup : TaskKind → Bool
is_dup kind.Regular = false
is_dup (kind.Dup quota) = true

-- The task of a task line, before the lines that belong to it.
abbrev pub task_of_line : (name : List ℕ) → TaskKind → (entry : List ℕ) → ℕ → TaskValue
task_of_line name kind entry budget = record {
  name = name;
  dup = is_dup kind;
  quota = quota_of kind;
  entry = entry;
  budget = budget;
  some = false;
  deps = [];
  regions = [];
}

-- The name of a task line; none of another line.
abbrev pub name_told : Option MapLine → List (List ℕ)
name_told None = []
name_told (Some (line.Memory words)) = []
name_told (Some (line.Cache sets ways)) = []
name_told (Some (line.Task name kind entry budget)) = name ∷ []
name_told (Some (line.After name when)) = []
name_told (Some line.Join) = []
name_told (Some (line.Region mode base stride count)) = []

-- The names of the lines that have the shape of a task line, in the order of the lines.
abbrev pub task_names : List TextLine → List (List ℕ)
task_names lines = flat_map (λ l. name_told (shape_of l.1)) lines

-- The place, from 0, of the first of these names that is this one; how many there are if none is.
abbrev pub place_of : (names : List (List ℕ)) → List ℕ → ℕ
place_of names name = position_or_len (λ n. bytes_eq n name) names

-- The parts after one more line of a section whose task lines have these names. `after`, `join`, `read` and `write`
-- belong to the current task, and the task that `after` names has the number of its task line.
abbrev pub with_line : (names : List (List ℕ)) → Parts → MapLine → Parts
with_line names p (line.Memory words) = record p { words = words }
with_line names p (line.Cache sets ways) = record p { sets = sets; ways = ways }
with_line names p (line.Task name kind entry budget) =
    record p { earlier = tasks_of p; current = Some (task_of_line name kind entry budget) }
with_line names p (line.After name when) =
    record p { current = option_map (with_dep (record { task = place_of names name; when = when })) p.current }
with_line names p line.Join = record p { current = option_map with_some p.current }
with_line names p (line.Region mode base stride count) =
    record p { current = option_map (with_region (region_of mode base stride count)) p.current }

-- The parts after what one more line was read as; the line that closes the section changes nothing.
abbrev pub with_read : (names : List (List ℕ)) → Parts → Option MapLine → Parts
with_read names p read = option_map_or (with_line names p) read p

-- The parts before any line.
abbrev pub nothing : Parts
nothing = record { words = 0; sets = 0; ways = 0; earlier = []; current = None }

-- The parts that lines of a section spell whose task lines have these names.
abbrev pub parts_of : (names : List (List ℕ)) → List TextLine → Parts
parts_of names lines = spelled_by shape_of (with_line names) nothing lines

-- The map of parts, its tasks in the order of `Order`.
abbrev pub whole : Parts → MapValue
whole p = record { words = p.words; sets = p.sets; ways = p.ways; tasks = tasks_of p; order = order_of (tasks_of p) }

-- The map that the lines of a section spell.
abbrev pub map_of : List TextLine → MapValue
map_of lines = whole (parts_of (task_names lines) lines)
