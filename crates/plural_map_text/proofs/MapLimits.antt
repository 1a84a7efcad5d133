-- Lines without a fault spell parts within the limits, and those of a whole section spell a map within them all.
use Rattle.std.proofs.Common.{◌≡◌, ℕ, ◌+◌, ◌%◌, ◌<◌, ◌≤◌, Bool, true, false, Some, None, Option, List, [], length, map, sum, get_or, refl, ap, sym, subst, arith}
use Rattle.std.specs.Prelude.{◌≢◌, ◌&&◌, ◌||◌, ◌==◌, if◌then◌else◌, not, ⊤, MatchOption, bytes_eq, nat_le, nat_lt, is_none, option_map}
use Rattle.std.specs.List.{All, AllPairs}
use Rattle.std.specs.Option.{option_map_or}
use Rattle.std.proofs.lemmas.Bool.{eqb-true, leb-false, ltb-false, both_ways, not-false, or_parts, and_parts}
use Rattle.plural_regions.specs.declared.region.Region.{Region}
use Rattle.plural_regions.specs.declared.region.Mode.{Mode}
use Rattle.plural_regions.specs.Bounds.{AllInside}
use Rattle.plural_map_text.specs.declared.line.MapLine.{MapLine}
use Rattle.plural_map_text.specs.declared.line.MapLine.TheVariants as line
use Rattle.plural_map_text.specs.declared.line.TaskKind.{TaskKind}
use Rattle.plural_map_text.specs.declared.line.TaskKind.TheVariants as kind
use Rattle.plural_map.specs.declared.outcome.When.{When}
use Rattle.plural_map.specs.Value.{TaskValue, with_dep, with_region, with_some}
use Rattle.plural_base.specs.CacheShape.{is_set_count}
use Rattle.plural_map.specs.Order.{IsDeclaredInOrder}
use Rattle.plural_map.specs.Lookup.{has_task}
use Rattle.plural_map_text.specs.RegionOf.{region_of}
use Rattle.plural_map_text.specs.Parts.{Parts, tasks_of, with_line, nothing, quota_of, is_dup, place_of}
use Rattle.plural_map_text.specs.Near.{IsNearMap}
use Rattle.plural_map_text.specs.Rules.{most_words, most_tasks, has, has_joined, has_dep, nameable, task_count, instance_count, is_out_of_place, is_out_of_range, is_misnamed, is_too_many}
use Rattle.plural_sections.specs.Numbers.{is_within}
use Rattle.plural_sections.proofs.Caps.{within_bounds}
use Rattle.plural_map_text.specs.Verdicts.{IsInsideAt}
use Rattle.plural_map_text.proofs.TaskLimits.{bound, IsDeclared, task_from_declared, dep_added, region_added, some_added, length_all, quotas_all, names_all, declared_all, new_name_all}

-- ---- what is kept

-- A memory of the version.
pub record IsWords (version words : ℕ) : Type 0 where
  pub low : 8 ≤ words
  pub high : words ≤ most_words version
  pub even : words % 8 ≡ 0

-- A cache's shape.
pub record IsShape (sets ways : ℕ) : Type 0 where
  pub known : is_set_count sets ≡ true
  pub low : 1 ≤ ways
  pub high : ways ≤ 4

-- The tasks before the current one, and the current one, are within all limits.
pub record HasTasks (version total words : ℕ) (ts : List TaskValue) (o : Option TaskValue) : Type 0 where
  pub few : length ts + option_map_or (λ t. 1) o 0 ≤ most_tasks version
  pub quotas : sum (map (λ t. t.quota) ts) + option_map_or (λ t. t.quota) o 0 ≤ 65536
  pub names : AllPairs (λ t u. t.name ≢ u.name) ts
  pub new_name : MatchOption o ⊤ (λ t. All (λ e. e.name ≢ t.name) ts)
  pub earlier : (i : ℕ) (d : TaskValue) → i < length ts → IsDeclared version total words i (get_or ts i d)
  pub current : MatchOption o ⊤ (IsDeclared version total words (length ts))

-- What holds of the parts that n lines without a fault spell, by the version, in a section with so many task lines.
pub record IsKept (version total n : ℕ) (p : Parts) : Type 0 where
  pub words : 1 ≤ n → IsWords version p.words
  pub shape : 2 ≤ n → IsShape p.sets p.ways
  pub no_earlier : n < 2 → p.earlier ≡ []
  pub no_current : n < 2 → p.current ≡ None
  pub tasks : HasTasks version total p.words p.earlier p.current

-- No lines spell no parts, within all limits.
pub kept_nothing : (version total : ℕ) → IsKept version total 0 nothing
kept_nothing version total = record {
  words = λ h. absurd (omega arith);
  shape = λ h. absurd (omega arith);
  no_earlier = λ h. refl;
  no_current = λ h. refl;
  tasks = record {
    few = omega arith;
    quotas = omega arith;
    names = λ i j d l h. absurd (omega arith);
    new_name = tt;
    earlier = λ i d h. absurd (omega arith);
    current = tt;
  };
}

-- ---- line by line

abbrev one : TaskValue → ℕ
one t = 1

kept_memory : (version : ℕ) (names : List (List ℕ)) (n : ℕ) (p : Parts) (w : ℕ) → IsKept version (length names) n p → is_out_of_place version n p (line.Memory w) ≡ false → is_out_of_range version (line.Memory w) ≡ false
    → IsKept version (length names) (n + 1) (with_line names p (line.Memory w))
kept_memory version names n p w k place range =
    let z : n ≡ 0 = eqb-true n 0 (not-false (n == 0) place) in
    let t = not-false (is_within 8 (most_words version) w && w % 8 == 0) range in
    let b = within_bounds 8 (most_words version) w (and_parts (is_within 8 (most_words version) w) (w % 8 == 0) t).0 in
    let none : p.earlier ≡ [] = k.no_earlier (omega arith) in
    let nil : length p.earlier ≡ 0 = ap length none in
    record {
      words = λ h. record { low = b.0; high = b.1; even = eqb-true (w % 8) 0 (and_parts (is_within 8 (most_words version) w) (w % 8 == 0) t).1 };
      shape = λ h. absurd (omega arith);
      no_earlier = λ h. none;
      no_current = λ h. k.no_current (omega arith);
      tasks = record {
        few = k.tasks.few;
        quotas = k.tasks.quotas;
        names = k.tasks.names;
        new_name = k.tasks.new_name;
        earlier = λ i d h. absurd (omega arith);
        current = rw (k.no_current (omega arith)) tt;
      };
    }

kept_cache : (version : ℕ) (names : List (List ℕ)) (n : ℕ) (p : Parts) (s w : ℕ) → IsKept version (length names) n p → is_out_of_place version n p (line.Cache s w) ≡ false → is_out_of_range version (line.Cache s w) ≡ false
    → IsKept version (length names) (n + 1) (with_line names p (line.Cache s w))
kept_cache version names n p s w k place range =
    let z : n ≡ 1 = eqb-true n 1 (not-false (n == 1) place) in
    let t = not-false (is_set_count s && is_within 1 4 w) range in
    let b = within_bounds 1 4 w (and_parts (is_set_count s) (is_within 1 4 w) t).1 in
    record {
      words = λ h. k.words (omega arith);
      shape = λ h. record { known = (and_parts (is_set_count s) (is_within 1 4 w) t).0; low = b.0; high = b.1 };
      no_earlier = λ h. absurd (omega arith);
      no_current = λ h. absurd (omega arith);
      tasks = k.tasks;
    }

-- A regular task has one instance.
regular_one : (k : TaskKind) → is_dup k ≡ false → quota_of k ≡ 1
regular_one kind.Regular e = refl
regular_one (kind.Dup q) e = absurd cc

kept_task : (version : ℕ) (labels names : List (List ℕ)) (n : ℕ) (p : Parts) (name : List ℕ) (tk : TaskKind) (entry : List ℕ) (budget : ℕ) → IsKept version (length names) n p → is_out_of_place version n p (line.Task name tk entry budget) ≡ false
    → is_out_of_range version (line.Task name tk entry budget) ≡ false → is_misnamed version labels names p (line.Task name tk entry budget) ≡ false → is_too_many version p (line.Task name tk entry budget) ≡ false
    → IsKept version (length names) (n + 1) (with_line names p (line.Task name tk entry budget))
kept_task version labels names n p name tk entry budget k place range misnamed many =
    let low : 2 ≤ n = ltb-false n 2 place in
    let t = not-false (is_within 1 16384 (quota_of tk) && is_within 1 100000000 budget) range in
    let q = within_bounds 1 16384 (quota_of tk) (and_parts (is_within 1 16384 (quota_of tk)) (is_within 1 100000000 budget) t).0 in
    let b = within_bounds 1 100000000 budget (and_parts (is_within 1 16384 (quota_of tk)) (is_within 1 100000000 budget) t).1 in
    let here = option_map_or (λ (t : TaskValue). bytes_eq t.name name) p.current false in
    let new = (or_parts (has_task p.earlier name || here) (not (has labels entry)) misnamed).0 in
    record {
      words = λ h. k.words (omega arith);
      shape = λ h. k.shape (omega arith);
      no_earlier = λ h. absurd (omega arith);
      no_current = λ h. absurd (omega arith);
      tasks = record {
        few = omega (arith, length_all p.earlier p.current, leb-false (most_tasks version) (task_count p) (or_parts (nat_le (most_tasks version) (task_count p)) (nat_lt 65536 (instance_count p + quota_of tk)) many).0);
        quotas = omega (arith, quotas_all p.earlier p.current, ltb-false 65536 (instance_count p + quota_of tk) (or_parts (nat_le (most_tasks version) (task_count p)) (nat_lt 65536 (instance_count p + quota_of tk)) many).1);
        names = names_all p.earlier p.current k.tasks.names k.tasks.new_name;
        new_name = new_name_all name p.earlier p.current (or_parts (has_task p.earlier name) here new).0 (or_parts (has_task p.earlier name) here new).1;
        earlier = declared_all version (length names) p.words p.earlier p.current k.tasks.earlier k.tasks.current;
        current = record {
          numbers = record { quota_low = q.0; quota_high = q.1; regular = regular_one tk; budget_low = b.0; budget_high = b.1 };
          few_deps = omega arith;
          before = λ i d h. absurd (omega arith);
          deps_differ = λ i j d l h. absurd (omega arith);
          few_regions = omega arith;
          inside = λ i a h m. absurd (both_ways false refl m);
        };
      };
    }

-- A current task that gets something more, and keeps its name and its instances, keeps the limits of all tasks.
kept_current : (version total n : ℕ) (p : Parts) (more : TaskValue → TaskValue) → ((t : TaskValue) → (more t).name ≡ t.name) → ((t : TaskValue) → (more t).quota ≡ t.quota) → IsKept version total n p → 2 ≤ n
    → MatchOption (option_map more p.current) ⊤ (IsDeclared version total p.words (length p.earlier)) → IsKept version total (n + 1) (record p { current = option_map more p.current })
kept_current version total n p more name quota k low current = record {
  words = λ h. k.words (omega arith);
  shape = λ h. k.shape (omega arith);
  no_earlier = λ h. absurd (omega arith);
  no_current = λ h. absurd (omega arith);
  tasks = record {
    few = subst (λ (c : ℕ). length p.earlier + c ≤ most_tasks version) (same_one p.current) k.tasks.few;
    quotas = subst (λ (c : ℕ). sum (map (λ (t : TaskValue). t.quota) p.earlier) + c ≤ 65536) (same_quota p.current) k.tasks.quotas;
    names = k.tasks.names;
    new_name = same_name p.current k.tasks.new_name;
    earlier = k.tasks.earlier;
    current = current;
  };
}
  where
    same_one : (o : Option TaskValue) → option_map_or one o 0 ≡ option_map_or one (option_map more o) 0
    same_one None = refl
    same_one (Some t) = refl

    same_quota : (o : Option TaskValue) → option_map_or (λ (t : TaskValue). t.quota) o 0 ≡ option_map_or (λ (t : TaskValue). t.quota) (option_map more o) 0
    same_quota None = refl
    same_quota (Some t) = sym (quota t)

    same_name : (o : Option TaskValue) → MatchOption o ⊤ (λ t. All (λ e. e.name ≢ t.name) p.earlier) → MatchOption (option_map more o) ⊤ (λ t. All (λ e. e.name ≢ t.name) p.earlier)
    same_name None h = tt
    same_name (Some t) h = subst (λ (x : List ℕ). All (λ (e : TaskValue). e.name ≢ x) p.earlier) (sym (name t)) h

kept_after : (version : ℕ) (labels names : List (List ℕ)) (n : ℕ) (p : Parts) (name : List ℕ) (when : When) → IsKept version (length names) n p → is_out_of_place version n p (line.After name when) ≡ false
    → is_misnamed version labels names p (line.After name when) ≡ false → is_too_many version p (line.After name when) ≡ false → IsKept version (length names) (n + 1) (with_line names p (line.After name when))
kept_after version labels names n p name when k place misnamed many =
    let low : 2 ≤ n = ltb-false n 2 (or_parts (nat_lt n 2) (is_none p.current) place).0 in
    let number = place_of names name in
    let named = or_parts (nat_le (nameable version names p) number) (option_map_or (has_dep number) p.current false) misnamed in
    kept_current version (length names) n p (with_dep (record { task = number; when = when })) (λ t. refl) (λ t. refl) k low (more p.current k.tasks.current named.1 many (leb-false (nameable version names p) number named.0))
  where
    more : (o : Option TaskValue) → MatchOption o ⊤ (IsDeclared version (length names) p.words (length p.earlier)) → option_map_or (has_dep (place_of names name)) o false ≡ false → option_map_or (λ (t : TaskValue). nat_le 16 (length t.deps)) o false ≡ false
        → place_of names name < bound version (length names) (length p.earlier)
        → MatchOption (option_map (with_dep (record { task = place_of names name; when = when })) o) ⊤ (IsDeclared version (length names) p.words (length p.earlier))
    more None d new room l = tt
    more (Some t) d new room l = dep_added version (length names) p.words (length p.earlier) t (place_of names name) when d l new room

kept_join : (version : ℕ) (names : List (List ℕ)) (n : ℕ) (p : Parts) → IsKept version (length names) n p → is_out_of_place version n p line.Join ≡ false → IsKept version (length names) (n + 1) (with_line names p line.Join)
kept_join version names n p k place =
    let low : 2 ≤ n = ltb-false n 2 (or_parts (nat_lt n 2) (has_joined p) (or_parts (not (version == 2)) (nat_lt n 2 || has_joined p) place).1).0 in
    kept_current version (length names) n p with_some (λ t. refl) (λ t. refl) k low (more p.current k.tasks.current)
  where
    more : (o : Option TaskValue) → MatchOption o ⊤ (IsDeclared version (length names) p.words (length p.earlier)) → MatchOption (option_map with_some o) ⊤ (IsDeclared version (length names) p.words (length p.earlier))
    more None d = tt
    more (Some t) d = some_added version (length names) p.words (length p.earlier) t d

kept_region : (version : ℕ) (names : List (List ℕ)) (n : ℕ) (p : Parts) (mode : Mode) (base stride count : ℕ) → IsKept version (length names) n p → is_out_of_place version n p (line.Region mode base stride count) ≡ false
    → is_too_many version p (line.Region mode base stride count) ≡ false → IsInsideAt p (line.Region mode base stride count) → IsKept version (length names) (n + 1) (with_line names p (line.Region mode base stride count))
kept_region version names n p mode base stride count k place many inside =
    let low : 2 ≤ n = ltb-false n 2 (or_parts (nat_lt n 2) (is_none p.current) place).0 in
    kept_current version (length names) n p (with_region region) (λ t. refl) (λ t. refl) k low (more p.current k.tasks.current many inside)
  where
    region : Region
    region = region_of mode base stride count

    more : (o : Option TaskValue) → MatchOption o ⊤ (IsDeclared version (length names) p.words (length p.earlier)) → option_map_or (λ (t : TaskValue). nat_le 8 (length t.regions)) o false ≡ false
        → MatchOption o ⊤ (λ t. AllInside region t.quota p.words) → MatchOption (option_map (with_region region) o) ⊤ (IsDeclared version (length names) p.words (length p.earlier))
    more None d room i = tt
    more (Some t) d room i = region_added version (length names) p.words (length p.earlier) t region d i room

-- A line without text after two lines or more keeps the limits.
pub kept_blank : (version total n : ℕ) (p : Parts) → IsKept version total n p → 2 ≤ n → IsKept version total (n + 1) p
kept_blank version total n p k low = record {
  words = λ h. k.words (omega arith);
  shape = λ h. k.shape (omega arith);
  no_earlier = λ h. absurd (omega arith);
  no_current = λ h. absurd (omega arith);
  tasks = k.tasks;
}

-- One more line without a fault keeps the limits.
pub kept_more : (version : ℕ) (labels names : List (List ℕ)) (n : ℕ) (p : Parts) (s : MapLine) → IsKept version (length names) n p → is_out_of_place version n p s ≡ false → is_out_of_range version s ≡ false → is_misnamed version labels names p s ≡ false
    → is_too_many version p s ≡ false → IsInsideAt p s → IsKept version (length names) (n + 1) (with_line names p s)
kept_more version labels names n p (line.Memory w) k a b c d i = kept_memory version names n p w k a b
kept_more version labels names n p (line.Cache s w) k a b c d i = kept_cache version names n p s w k a b
kept_more version labels names n p (line.Task name tk entry budget) k a b c d i = kept_task version labels names n p name tk entry budget k a b c d
kept_more version labels names n p (line.After name when) k a b c d i = kept_after version labels names n p name when k a c d
kept_more version labels names n p line.Join k a b c d i = kept_join version names n p k a
kept_more version labels names n p (line.Region mode base stride count) k a b c d i = kept_region version names n p mode base stride count k a d i

-- ---- the whole map

-- The tasks of kept parts of version 1 depend on tasks of lesser numbers alone.
pub kept_in_order : (version total n : ℕ) (p : Parts) → (version == 2) ≡ false → IsKept version total n p → IsDeclaredInOrder (tasks_of p)
kept_in_order version total n p e k t d h = rw e at (declared_all version total p.words p.earlier p.current k.tasks.earlier k.tasks.current t d h).before

-- No version has more than 1,048,576 words.
pub words_most : (version : ℕ) → most_words version ≤ 1048576
words_most version = by (version == 2)
  where
    by : (b : Bool) → (if b then 1048576 else 65536) ≤ 1048576
    by true = omega arith
    by false = omega arith

-- Nor more than 256 tasks.
pub tasks_most : (version : ℕ) → most_tasks version ≤ 256
tasks_most version = by (version == 2)
  where
    by : (b : Bool) → (if b then 256 else 64) ≤ 256
    by true = omega arith
    by false = omega arith

-- The numbers that a task may depend on are those of tasks, if all task lines were read.
pub bound_within : (version total i n : ℕ) → total ≡ n → i < n → bound version total i ≤ n
bound_within version total i n e l = by (version == 2)
  where
    by : (b : Bool) → (if b then total else i) ≤ n
    by true = omega arith
    by false = omega arith

-- The parts of a whole section are within all limits of a map but for the order.
pub kept_near : (version total n : ℕ) (p : Parts) → IsKept version total n p → 2 ≤ n → total ≡ length (tasks_of p) → IsNearMap p
kept_near version total n p k h all =
    let w = k.words (omega arith) in
    let s = k.shape h in
    record {
      words_low = w.low;
      words_high = omega (arith, w.high, words_most version);
      words_whole = w.even;
      sets = s.known;
      ways_low = s.low;
      ways_high = s.high;
      few_tasks = omega (arith, length_all p.earlier p.current, k.tasks.few, tasks_most version);
      few_instances = omega (arith, quotas_all p.earlier p.current, k.tasks.quotas);
      names_differ = names_all p.earlier p.current k.tasks.names k.tasks.new_name;
      each = λ i d l. task_from_declared version total p.words i (tasks_of p) (get_or (tasks_of p) i d) (bound_within version total i (length (tasks_of p)) all l) (declared_all version total p.words p.earlier p.current k.tasks.earlier k.tasks.current i d l);
    }
