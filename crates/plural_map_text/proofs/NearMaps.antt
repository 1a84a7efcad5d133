-- The map of parts within all limits, whose order reaches each task.
use Rattle.std.proofs.Common.{◌≤◌, List, length, refl, arith}
use Rattle.plural_map.specs.Value.{TaskValue}
use Rattle.plural_map.specs.Limits.{IsMap}
use Rattle.plural_map.specs.Order.{order_of}
use Rattle.plural_map.specs.Cycle.{ReachesAll}
use Rattle.plural_map.proofs.OrderPlaces.{order_long}
use Rattle.plural_map.proofs.CycleLaws.{long_reaches}
use Rattle.plural_map_text.specs.Parts.{Parts, tasks_of, whole}
use Rattle.plural_map_text.specs.Near.{IsNearMap}

-- An order that isn't shorter than the list of tasks reaches each.
pub reaches_long : (tasks : List TaskValue) → length tasks ≤ length (order_of tasks) → ReachesAll tasks
reaches_long tasks h = long_reaches tasks (omega (arith, h, order_long tasks))

-- It makes them a map.
pub near_map : (p : Parts) → IsNearMap p → ReachesAll (tasks_of p) → IsMap (whole p)
near_map p n all = record {
  words_low = n.words_low;
  words_high = n.words_high;
  words_whole = n.words_whole;
  sets = n.sets;
  ways_low = n.ways_low;
  ways_high = n.ways_high;
  few_tasks = n.few_tasks;
  few_instances = n.few_instances;
  names_differ = n.names_differ;
  each = n.each;
  ordered = refl;
  reaches = all;
}
