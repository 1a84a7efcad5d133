-- The faults of map lines: which kinds a line has, by the version, all lines of the section and those before the line.
use Rattle.std.specs.Prelude.{◌≡◌, ℕ, ◌+◌, ◌%◌, Bool, true, false, not, ◌||◌, ◌&&◌, List, MatchOption, length, map, sum, is_none, nat_le, nat_lt, bytes_eq, ◌==◌, if◌then◌else◌}
use Rattle.std.specs.List.{list_any}
use Rattle.std.specs.Option.{option_map_or}
use Rattle.plural_bytes.specs.Lines.{TextLine}
use Rattle.plural_sections.specs.Faults.{IsFaultless, closed}
use Rattle.plural_sections.specs.LineKinds.{BreaksBy, BreaksEnded}
use Rattle.plural_sections.specs.Errors.{Tells}
use Rattle.plural_sections.specs.Numbers.{is_within}
use Rattle.plural_regions.specs.Bounds.{IsLeastOutside}
use Rattle.plural_map_text.specs.declared.line.MapLine.{MapLine}
use Rattle.plural_map_text.specs.declared.line.MapLine.TheVariants as line
use Rattle.plural_map_text.specs.declared.fault.MapKind.{MapKind}
use Rattle.plural_map_text.specs.declared.fault.MapKind.TheVariants as kinds
use Rattle.plural_sections.specs.declared.line_error.LineError.{LineError}
use Rattle.plural_map.specs.Value.{TaskValue}
use Rattle.plural_map_text.specs.Shape.{shape_of}
use Rattle.plural_map_text.specs.RegionOf.{region_of}
use Rattle.plural_base.specs.CacheShape.{is_set_count}
use Rattle.plural_map_text.specs.Parts.{Parts, quota_of, tasks_of, parts_of, task_names, place_of}
use Rattle.plural_map.specs.Lookup.{has_task}
use Rattle.plural_map.specs.Cycle.{IsCycleNamed}

-- ---- the limits of each version

-- The most words of a memory, and of a region's count: 65,536 by version 1, 1,048,576 by version 2.
abbrev pub most_words : (version : ℕ) → ℕ
most_words version = if version == 2 then 1048576 else 65536

-- The most of a region's base and of its stride: 65,535 by version 1, 1,048,575 by version 2.
abbrev pub most_stride : (version : ℕ) → ℕ
most_stride version = if version == 2 then 1048575 else 65535

-- The most tasks: 64 by version 1, 256 by version 2.
abbrev pub most_tasks : (version : ℕ) → ℕ
most_tasks version = if version == 2 then 256 else 64

-- ---- the kinds of a line

-- The current task has `join some` already, or there is none.
abbrev pub has_joined : Parts → Bool
has_joined p = option_map_or (λ t. t.some) p.current true

-- 1: the line stands in another's place: `memory` is the first, `cache` the second, the others follow, and `after`,
-- `join`, `read` and `write` come after some task. A task has one `join some` at most, by version 2 alone.
abbrev pub is_out_of_place : (version : ℕ) → ℕ → Parts → MapLine → Bool
is_out_of_place version n p (line.Memory words) = not (n == 0)
is_out_of_place version n p (line.Cache sets ways) = not (n == 1)
is_out_of_place version n p (line.Task name kind entry budget) = nat_lt n 2
is_out_of_place version n p (line.After name when) = nat_lt n 2 || is_none p.current
is_out_of_place version n p line.Join = not (version == 2) || (nat_lt n 2 || has_joined p)
is_out_of_place version n p (line.Region mode base stride count) = nat_lt n 2 || is_none p.current

-- The words of a memory: a multiple of 8, 8 or more.
abbrev pub are_words : (version : ℕ) → ℕ → Bool
are_words version words = is_within 8 (most_words version) words && words % 8 == 0

-- The shape of a cache: sets that are a power of two from 1 to 64, and 1 to 4 ways.
abbrev pub are_sets_and_ways : ℕ → ℕ → Bool
are_sets_and_ways sets ways = is_set_count sets && is_within 1 4 ways

-- The numbers of a task: a quota from 1 to 16,384, and a budget from 1 to 100,000,000.
abbrev pub are_quota_and_budget : ℕ → ℕ → Bool
are_quota_and_budget quota budget = is_within 1 16384 quota && is_within 1 100000000 budget

-- The numbers of a region: base and stride from 0, and a count from 1.
abbrev pub are_region : (version base stride count : ℕ) → Bool
are_region version base stride count =
    is_within 0 (most_stride version) base && is_within 0 (most_stride version) stride
    && is_within 1 (most_words version) count

-- 2: a number is out of its range.
abbrev pub is_out_of_range : (version : ℕ) → MapLine → Bool
is_out_of_range version (line.Memory words) = not (are_words version words)
is_out_of_range version (line.Cache sets ways) = not (are_sets_and_ways sets ways)
is_out_of_range version (line.Task name kind entry budget) = not (are_quota_and_budget (quota_of kind) budget)
is_out_of_range version (line.After name when) = false
is_out_of_range version line.Join = false
is_out_of_range version (line.Region mode base stride count) = not (are_region version base stride count)

-- The name is one of the list.
abbrev pub has : List (List ℕ) → List ℕ → Bool
has names name = list_any (λ n. bytes_eq n name) names

-- The task depends on the task of this number.
abbrev pub has_dep : ℕ → TaskValue → Bool
has_dep number t = list_any (λ d. d.task == number) t.deps

-- The current task has this name.
abbrev pub names_current : Parts → List ℕ → Bool
names_current p name = option_map_or (λ t. bytes_eq t.name name) p.current false

-- The current task depends on the task of this number.
abbrev pub current_has_dep : Parts → ℕ → Bool
current_has_dep p number = option_map_or (has_dep number) p.current false

-- How many of the task lines, whose names these are, `after` may name: all by version 2, and by version 1 those before
-- the current task's.
abbrev pub nameable : (version : ℕ) → (names : List (List ℕ)) → Parts → ℕ
nameable version names p = if version == 2 then length names else length p.earlier

-- 3: a task's name was declared before, or its entry is no label; or the first task line of the name of `after` isn't
-- one of those that it may name, or the current task named it before.
abbrev pub is_misnamed : (version : ℕ) → (labels names : List (List ℕ)) → Parts → MapLine → Bool
is_misnamed version labels names p (line.Memory words) = false
is_misnamed version labels names p (line.Cache sets ways) = false
is_misnamed version labels names p (line.Task name kind entry budget) =
    has_task p.earlier name || names_current p name || not (has labels entry)
is_misnamed version labels names p (line.After name when) =
    nat_le (nameable version names p) (place_of names name) || current_has_dep p (place_of names name)
is_misnamed version labels names p line.Join = false
is_misnamed version labels names p (line.Region mode base stride count) = false

-- How many tasks there are so far.
abbrev pub task_count : Parts → ℕ
task_count p = length p.earlier + option_map_or (λ t. 1) p.current 0

-- How many instances they have.
abbrev pub instance_count : Parts → ℕ
instance_count p = sum (map (λ t. t.quota) p.earlier) + option_map_or (λ t. t.quota) p.current 0

-- With so many instances more there are more than 65,536.
abbrev pub exceeds_instances : Parts → ℕ → Bool
exceeds_instances p quota = nat_lt 65536 (instance_count p + quota)

-- 4: one task more than the most, an instance above 65,536, a 17th dependency, a 9th region.
abbrev pub is_too_many : (version : ℕ) → Parts → MapLine → Bool
is_too_many version p (line.Memory words) = false
is_too_many version p (line.Cache sets ways) = false
is_too_many version p (line.Task name kind entry budget) =
    nat_le (most_tasks version) (task_count p) || exceeds_instances p (quota_of kind)
is_too_many version p (line.After name when) = option_map_or (λ t. nat_le 16 (length t.deps)) p.current false
is_too_many version p line.Join = false
is_too_many version p (line.Region mode base stride count) =
    option_map_or (λ t. nat_le 8 (length t.regions)) p.current false

-- 5: instance k of the current task is the least below its quota that has a word of the region outside the memory.
abbrev pub IsOutsideAt : Parts → MapLine → ℕ → Type 0
IsOutsideAt p (line.Region mode base stride count) k =
    MatchOption p.current ⊥ (λ t. IsLeastOutside (region_of mode base stride count) t.quota p.words k)
IsOutsideAt p (line.Memory words) k = ⊥
IsOutsideAt p (line.Cache sets ways) k = ⊥
IsOutsideAt p (line.Task name kind entry budget) k = ⊥
IsOutsideAt p (line.After name when) k = ⊥
IsOutsideAt p line.Join k = ⊥

-- The table of kinds, for a line of a shape after n lines that spell the parts, by a version, with these labels and the
-- names of the section's task lines.
abbrev pub HasKind : (version : ℕ) → (labels names : List (List ℕ)) → ℕ → Parts → MapLine → MapKind → Type 0
HasKind version labels names n p s kinds.Form = is_out_of_place version n p s ≡ true
HasKind version labels names n p s kinds.Number = is_out_of_range version s ≡ true
HasKind version labels names n p s kinds.Name = is_misnamed version labels names p s ≡ true
HasKind version labels names n p s kinds.Count = is_too_many version p s ≡ true
HasKind version labels names n p s (kinds.Outside k) = IsOutsideAt p s k
HasKind version labels names n p s (kinds.Cycle cycle) = ⊥

-- The kinds of a line without text, which closes the section, after n of its lines, which spell the parts: 1, it closes
-- the section early, if fewer than two lines stand before it; and 7 by version 2, if it stands after all lines and the
-- order doesn't reach each task.
abbrev pub EndKind : (version total n : ℕ) → Parts → MapKind → Type 0
EndKind version total n p kinds.Form = nat_lt n 2 ≡ true
EndKind version total n p kinds.Number = ⊥
EndKind version total n p kinds.Name = ⊥
EndKind version total n p kinds.Count = ⊥
EndKind version total n p (kinds.Outside k) = ⊥
EndKind version total n p (kinds.Cycle cycle) =
    ((version == 2) ≡ true) × (n ≡ total) × IsCycleNamed (tasks_of p) cycle

-- The number of a kind; of a line's kinds the least is its fault.
abbrev pub rank : MapKind → ℕ
rank kinds.Form = 1
rank kinds.Number = 2
rank kinds.Name = 3
rank kinds.Count = 4
rank (kinds.Outside k) = 5
rank (kinds.Cycle cycle) = 7

-- The faults of a line, by the lines before it, in a section of so many lines whose task lines have these names. A line
-- without text closes the section. Of the others, one without a shape has a fault of form alone, and one with a shape
-- has those of the table.
abbrev pub BreaksIn : (version : ℕ) → (labels names : List (List ℕ)) → (total : ℕ) → (before : List TextLine) → List ℕ
    → MapKind → Type 0
BreaksIn version labels names total =
    BreaksEnded (λ before. EndKind version total (length before) (parts_of names before))
    (BreaksBy shape_of kinds.Form (parts_of names) (HasKind version labels names))

-- The faults of a line of a section with all these lines, by the lines before it.
abbrev pub Breaks : (version : ℕ) → (labels : List (List ℕ)) → (all before : List TextLine) → List ℕ → MapKind
    → Type 0
Breaks version labels all = BreaksIn version labels (task_names all) (length all)

-- What an error says of the lines of a section and the number of the line that closes it: the first fault, or that
-- memory ran out.
abbrev pub Faults : (version : ℕ) → List (List ℕ) → List TextLine → (end : ℕ) → LineError MapKind → Type 0
Faults version labels lines end error = Tells rank (Breaks version labels lines) (closed lines end) error

-- The lines of a section and the line that closes it have no fault.
abbrev pub IsMapText : (version : ℕ) → List (List ℕ) → List TextLine → (end : ℕ) → Type 0
IsMapText version labels lines end = IsFaultless (Breaks version labels lines) (closed lines end)
