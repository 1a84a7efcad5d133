-- The shapes of map lines.
use Rattle.std.specs.Prelude.{ℕ, ◌&&◌, List, [], ◌∷◌, Option, Some, None, option_map, option_and_then, codes, bytes_eq, if◌then◌else◌}
use Rattle.plural_bytes.specs.Lines.{tokens}
use Rattle.plural_sections.specs.Numbers.{capped_numeral}
use Rattle.plural_base.specs.Names.{name_of}
use Rattle.plural_regions.specs.declared.region.Mode.{Mode}
use Rattle.plural_regions.specs.declared.region.Mode.TheVariants.{Read, Write}
use Rattle.plural_map_text.specs.declared.line.MapLine.{MapLine}
use Rattle.plural_map_text.specs.declared.line.MapLine.TheVariants as line
use Rattle.plural_map_text.specs.declared.line.TaskKind.{TaskKind}
use Rattle.plural_map_text.specs.declared.line.TaskKind.TheVariants as kind
use Rattle.plural_map.specs.declared.outcome.When.{When}
use Rattle.plural_map.specs.declared.outcome.When.TheVariants.{Any, Code0, Code1}

-- `any`, `0` or `1`.
abbrev pub when_of : List ℕ → Option When
when_of t =
    if bytes_eq t (codes "any") then Some Any
    else if bytes_eq t (codes "0") then Some Code0
    else if bytes_eq t (codes "1") then Some Code1
    else None

-- memory W
abbrev pub memory_line : List (List ℕ) → Option MapLine
memory_line (w ∷ []) = option_map (λ words. line.Memory words) (capped_numeral w)
memory_line ts = None

-- cache SETS WAYS
abbrev pub cache_line : List (List ℕ) → Option MapLine
cache_line (s ∷ w ∷ []) =
    option_and_then (λ sets. option_map (λ ways. line.Cache sets ways) (capped_numeral w)) (capped_numeral s)
cache_line ts = None

-- entry LABEL budget B, of the task of this name and kind
abbrev pub task_end : List ℕ → TaskKind → List (List ℕ) → Option MapLine
task_end n k (e ∷ l ∷ b ∷ v ∷ []) =
    if bytes_eq e (codes "entry") && bytes_eq b (codes "budget")
    then option_and_then (λ name. option_and_then (λ entry. option_map (λ budget. line.Task name k entry budget)
    (capped_numeral v)) (name_of l)) (name_of n)
    else None
task_end n k ts = None

-- Q entry LABEL budget B
abbrev pub dup_task : List ℕ → List (List ℕ) → Option MapLine
dup_task n (q ∷ ts) = option_and_then (λ quota. task_end n (kind.Dup quota) ts) (capped_numeral q)
dup_task n [] = None

-- task NAME regular entry LABEL budget B, task NAME dup Q entry LABEL budget B
abbrev pub task_line : List (List ℕ) → Option MapLine
task_line (n ∷ w ∷ ts) =
    if bytes_eq w (codes "regular") then task_end n kind.Regular ts
    else if bytes_eq w (codes "dup") then dup_task n ts
    else None
task_line ts = None

-- after NAME any, after NAME 0, after NAME 1
abbrev pub after_line : List (List ℕ) → Option MapLine
after_line (n ∷ w ∷ []) = option_and_then (λ name. option_map (λ when. line.After name when) (when_of w)) (name_of n)
after_line ts = None

-- join some
abbrev pub join_line : List (List ℕ) → Option MapLine
join_line (w ∷ []) = if bytes_eq w (codes "some") then Some line.Join else None
join_line ts = None

-- read BASE STRIDE COUNT, write BASE STRIDE COUNT
abbrev pub region_line : Mode → List (List ℕ) → Option MapLine
region_line mode (b ∷ s ∷ c ∷ []) =
    option_and_then (λ base. option_and_then (λ stride. option_map (λ count. line.Region mode base stride count)
    (capped_numeral c)) (capped_numeral s)) (capped_numeral b)
region_line mode ts = None

-- The shape of a line by its first token.
abbrev pub shape : List (List ℕ) → Option MapLine
shape [] = None
shape (k ∷ ts) =
    if bytes_eq k (codes "memory") then memory_line ts
    else if bytes_eq k (codes "cache") then cache_line ts
    else if bytes_eq k (codes "task") then task_line ts
    else if bytes_eq k (codes "after") then after_line ts
    else if bytes_eq k (codes "join") then join_line ts
    else if bytes_eq k (codes "read") then region_line Read ts
    else if bytes_eq k (codes "write") then region_line Write ts
    else None

-- The shape of a line.
abbrev pub shape_of : List ℕ → Option MapLine
shape_of text = shape (tokens text)
