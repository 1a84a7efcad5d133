-- Reading what was printed.
use Rattle.std.specs.Prelude.{◌≡◌, ℕ, ◌<◌, ◌≤◌, false, List, length, slice_index_or, IsTrue}
use Rattle.std.specs.List.{All, range_with_len}
use Rattle.plural_bytes.specs.Lines.{TextLine, content_lines}
use Rattle.plural_base.specs.Names.{is_name}
use Rattle.plural_regions.specs.declared.region.Region.{Region}
use Rattle.plural_map.specs.declared.outcome.Dep.{Dep}
use Rattle.plural_map.specs.Value.{TaskValue, MapValue}
use Rattle.plural_map.specs.Limits.{IsMap}
use Rattle.plural_map_text.specs.Print.{map_text}
use Rattle.plural_map_text.specs.Parts.{map_of}
use Rattle.plural_map_text.specs.Rules.{IsMapText, has}

-- The numbers of a region that a line may spell: base and stride of at most 65,535, a count of at most 65,536.
pub record IsSpelledRegion (r : Region) : Type 0 where
  pub base : r.base ≤ 65535
  pub stride : r.stride ≤ 65535
  pub count : r.count ≤ 65536

-- The task of this number that lines may spell: its name and its entry are names, all its dependencies have to be
-- satisfied, each is on a task of a lesser number, and lines may spell its regions.
pub record IsSpelledTask (number : ℕ) (t : TaskValue) : Type 0 where
  pub name : IsTrue (is_name t.name)
  pub entry : IsTrue (is_name t.entry)
  pub every : t.some ≡ false
  pub earlier : All (λ (d : Dep). d.task < number) t.deps
  pub regions : All IsSpelledRegion t.regions

-- A map that version 1 of the format spells: at most 65,536 words, at most 64 tasks, and each task is one that lines
-- may spell.
pub record IsVersion1 (m : MapValue) : Type 0 where
  pub words : m.words ≤ 65536
  pub few_tasks : length m.tasks ≤ 64
  pub each : (number : ℕ) (d : TaskValue) → number < length m.tasks
      → IsSpelledTask number (slice_index_or m.tasks number d)

-- A task that lines of version 2 may spell: its name and its entry are names.
pub record IsNamedTask (t : TaskValue) : Type 0 where
  pub name : IsTrue (is_name t.name)
  pub entry : IsTrue (is_name t.entry)

-- A map that version 2 of the format spells: any within all limits of a map, if the names of its tasks are names.
abbrev pub IsVersion2 : MapValue → Type 0
IsVersion2 m = All IsNamedTask m.tasks

-- Each task's entry is one of these labels.
abbrev pub AreLabelled : List (List ℕ) → List TaskValue → Type 0
AreLabelled labels tasks = All (λ (t : TaskValue). IsTrue (has labels t.entry)) tasks

-- The content lines of a printed map of version 1 have no fault, for whatever labels that have each task's entry and
-- whichever line closes them, and spell the map.
abbrev pub MapRoundTrip : Type 0
MapRoundTrip = (m : MapValue) (labels : List (List ℕ)) (end : ℕ) → IsMap m → IsVersion1 m → AreLabelled labels m.tasks
    → IsMapText 1 labels (content_lines (map_text m)) end × (map_of (content_lines (map_text m)) ≡ m)

-- The map that lines without a fault spell is within all limits, one that version 1 spells, and its tasks' entries are
-- labels.
abbrev pub MapFits : Type 0
MapFits = (labels : List (List ℕ)) (lines : List TextLine) (end : ℕ) → IsMapText 1 labels lines end
    → IsMap (map_of lines) × IsVersion1 (map_of lines) × AreLabelled labels (map_of lines).tasks

-- The order of its tasks is that of their declaration.
abbrev pub MapDeclared : Type 0
MapDeclared = (labels : List (List ℕ)) (lines : List TextLine) (end : ℕ) → IsMapText 1 labels lines end
    → (map_of lines).order ≡ range_with_len 0 (length (map_of lines).tasks)

-- The same of a printed map of version 2.
abbrev pub MapRoundTrip2 : Type 0
MapRoundTrip2 = (m : MapValue) (labels : List (List ℕ)) (end : ℕ) → IsMap m → IsVersion2 m → AreLabelled labels m.tasks
    → IsMapText 2 labels (content_lines (map_text m)) end × (map_of (content_lines (map_text m)) ≡ m)

-- And of lines of version 2 without a fault.
abbrev pub MapFits2 : Type 0
MapFits2 = (labels : List (List ℕ)) (lines : List TextLine) (end : ℕ) → IsMapText 2 labels lines end
    → IsMap (map_of lines) × IsVersion2 (map_of lines) × AreLabelled labels (map_of lines).tasks
