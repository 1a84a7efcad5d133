-- A task by what it is made of.
use Rattle.plural_map.specs.declared.task.TaskParts.{TaskParts}
use Rattle.plural_map.specs.Value.{TaskValue}

-- The task of these parts.
abbrev pub task_of_parts : TaskParts → TaskValue
task_of_parts p = record {
  name = p.name;
  dup = p.dup;
  quota = p.quota;
  entry = p.entry;
  budget = p.budget;
  some = p.some;
  deps = p.deps.items;
  regions = p.regions.items;
}
