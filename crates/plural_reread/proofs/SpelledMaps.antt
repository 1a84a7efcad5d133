-- Maps that a version of the format spells.
use Rattle.std.proofs.Common.{◌≡◌, ℕ, ◌<◌, ◌≤◌, true, false, length, get_or}
use Rattle.std.specs.Prelude.{◌==◌}
use Rattle.std.specs.List.{All}
use Rattle.plural_base.specs.Names.{is_name}
use Rattle.plural_regions.specs.declared.region.Region.{Region}
use Rattle.plural_map.specs.declared.outcome.Dep.{Dep}
use Rattle.plural_map.specs.Value.{TaskValue, MapValue}
use Rattle.plural_map.specs.Limits.{IsMap}
use Rattle.plural_map_text.specs.Rules.{most_words, most_stride, most_tasks}
use Rattle.plural_map_text.proofs.TaskLimits.{bound}
use Rattle.plural_reread.specs.Laws.{IsSpelledTask, IsVersion1, IsNamedTask, IsVersion2}

-- The numbers of a region that a line of the version may spell.
pub record IsRegionOf (version : ℕ) (r : Region) : Type 0 where
  pub base : r.base ≤ most_stride version
  pub stride : r.stride ≤ most_stride version
  pub count : r.count ≤ most_words version

-- The task of this number, of so many, that lines of the version may spell.
pub record IsTaskOf (version total number : ℕ) (t : TaskValue) : Type 0 where
  pub name : is_name t.name ≡ true
  pub entry : is_name t.entry ≡ true
  pub every : (version == 2) ≡ false → t.some ≡ false
  pub before : All (λ (d : Dep). d.task < bound version total number) t.deps
  pub regions : All (IsRegionOf version) t.regions

-- A map that lines of the version may spell.
pub record IsSpelled (version : ℕ) (m : MapValue) : Type 0 where
  pub words : m.words ≤ most_words version
  pub few_tasks : length m.tasks ≤ most_tasks version
  pub each : (number : ℕ) (d : TaskValue) → number < length m.tasks → IsTaskOf version (length m.tasks) number (get_or m.tasks number d)

-- A map of version 1 is one that its lines may spell.
pub spelled_1 : (m : MapValue) → IsVersion1 m → IsSpelled 1 m
spelled_1 m v = record {
  words = v.words;
  few_tasks = v.few_tasks;
  each = λ number d l. let t : IsSpelledTask number (get_or m.tasks number d) = v.each number d l in record { name = t.name; entry = t.entry; every = λ e. t.every; before = t.earlier; regions = λ k r h. let s = t.regions k r h in record { base = s.base; stride = s.stride; count = s.count } };
}

-- A map of version 2, too.
pub spelled_2 : (m : MapValue) → IsMap m → IsVersion2 m → IsSpelled 2 m
spelled_2 m limits v = record {
  words = limits.words_high;
  few_tasks = limits.few_tasks;
  each = λ number d l.
      let t : IsNamedTask (get_or m.tasks number d) = v number d l in
      record {
        name = t.name;
        entry = t.entry;
        every = λ e. absurd cc;
        before = (limits.each number d l).deps_within;
        regions = λ k r h. let x = get_or (get_or m.tasks number d).regions k r in record { base = x.base_limit; stride = x.stride_limit; count = x.count_limit };
      };
}
