-- What a reader knows of the tasks of a whole section before their order.
use Rattle.std.specs.Prelude.{ℕ, ◌≡◌, ◌≢◌, ◌≤◌, ◌%◌, true, List, ⊤, length, map, sum}
use Rattle.std.specs.List.{All, AllPairs}
use Rattle.plural_base.specs.CacheShape.{is_set_count}
use Rattle.plural_map.specs.Value.{TaskValue}
use Rattle.plural_map.specs.Limits.{IsTask}
use Rattle.plural_map.specs.Cycle.{IsCycleNamed}
use Rattle.plural_sections.specs.declared.line_error.LineError.{LineError}
use Rattle.plural_sections.specs.declared.line_error.LineError.TheVariants.{At, Memory}
use Rattle.plural_map_text.specs.declared.fault.MapKind.{MapKind}
use Rattle.plural_map_text.specs.declared.fault.MapKind.TheVariants.{Cycle}
use Rattle.plural_map_text.specs.Parts.{Parts, tasks_of}

-- Parts within all limits of a map, but for its order.
pub record IsNearMap (p : Parts) : Type 0 where
  pub words_low : 8 ≤ p.words
  pub words_high : p.words ≤ 1048576
  pub words_whole : p.words % 8 ≡ 0
  pub sets : is_set_count p.sets ≡ true
  pub ways_low : 1 ≤ p.ways
  pub ways_high : p.ways ≤ 4
  pub few_tasks : length (tasks_of p) ≤ 256
  pub few_instances : sum (map (λ t. t.quota) (tasks_of p)) ≤ 65536
  pub names_differ : AllPairs (λ t u. t.name ≢ u.name) (tasks_of p)
  pub each : All (IsTask p.words (tasks_of p)) (tasks_of p)

-- The error is that memory ran out, or names a cycle of the tasks on this line.
abbrev pub IsCycleAt : (end : ℕ) → List TaskValue → LineError MapKind → Type 0
IsCycleAt end tasks Memory = ⊤
IsCycleAt end tasks (At number (Cycle names)) = (number ≡ end) × IsCycleNamed tasks names
IsCycleAt end tasks (At number kind) = ⊥
