-- The canonical lines of a map: single spaces, decimal numbers without leading zeros, for each task its dependencies,
-- `join some` if one satisfied dependency is enough, and its regions.
use Rattle.std.specs.Prelude.{ℕ, Bool, true, false, List, [], ◌∷◌, ◌++◌, codes, flat_map}
use Rattle.std.specs.Fmt.{decimal}
use Rattle.plural_regions.specs.declared.region.Region.{Region}
use Rattle.plural_regions.specs.declared.region.Mode.{Mode}
use Rattle.plural_regions.specs.declared.region.Mode.TheVariants as mode
use Rattle.plural_map.specs.declared.outcome.Dep.{Dep}
use Rattle.plural_map.specs.declared.outcome.When.{When}
use Rattle.plural_map.specs.declared.outcome.When.TheVariants as when
use Rattle.plural_map.specs.Value.{TaskValue, MapValue}
use Rattle.plural_map.specs.Lookup.{name_at}

-- Tokens with one space between each two, and a line end.
abbrev pub line_text : List (List ℕ) → List ℕ
line_text [] = 10 ∷ []
line_text (t ∷ []) = t ++ 10 ∷ []
line_text (t ∷ u ∷ ts) = t ++ 32 ∷ line_text (u ∷ ts)

-- ` regular ` or ` dup Q `.
abbrev pub kind_text : Bool → ℕ → List ℕ
kind_text false quota = codes " regular "
kind_text true quota = codes " dup " ++ (decimal quota ++ codes " ")

-- task NAME regular entry LABEL budget B, task NAME dup Q entry LABEL budget B
abbrev pub task_line : TaskValue → List ℕ
task_line t =
    codes "task " ++ (t.name ++ (kind_text t.dup t.quota
    ++ (codes "entry " ++ (t.entry ++ (codes " budget " ++ (decimal t.budget ++ codes "\n"))))))

-- `any`, `0` or `1`.
abbrev pub when_text : When → List ℕ
when_text when.Any = codes "any"
when_text when.Code0 = codes "0"
when_text when.Code1 = codes "1"

-- after NAME any, after NAME 0, after NAME 1
abbrev pub dep_text : List TaskValue → Dep → List ℕ
dep_text tasks d = line_text (codes "after" ∷ name_at tasks d.task ∷ when_text d.when ∷ [])

-- join some
abbrev pub join_text : Bool → List ℕ
join_text false = []
join_text true = codes "join some\n"

-- `read` or `write`.
abbrev pub mode_text : Mode → List ℕ
mode_text mode.Read = codes "read"
mode_text mode.Write = codes "write"

-- read BASE STRIDE COUNT, write BASE STRIDE COUNT
abbrev pub region_text : Region → List ℕ
region_text r = line_text (mode_text r.mode ∷ decimal r.base ∷ decimal r.stride ∷ decimal r.count ∷ [])

-- The lines of a task.
abbrev pub task_text : List TaskValue → TaskValue → List ℕ
task_text tasks t =
    task_line t ++ (flat_map (dep_text tasks) t.deps ++ (join_text t.some ++ flat_map region_text t.regions))

-- The lines of a map.
abbrev pub map_text : MapValue → List ℕ
map_text m =
    line_text (codes "memory" ∷ decimal m.words ∷ [])
    ++ (line_text (codes "cache" ∷ decimal m.sets ∷ decimal m.ways ∷ []) ++ flat_map (task_text m.tasks) m.tasks)
