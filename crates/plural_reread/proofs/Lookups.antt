-- Tasks found by their names, and values that are rebuilt.
use Rattle.std.proofs.Common.{◌≡◌, ℕ, ◌+◌, ◌≤◌, ◌≢◌, Bool, true, false, eqb, List, [], ◌∷◌, ◌++◌, length, map, sum, get_or, Some, None, Option, refl, arith}
use Rattle.std.specs.Prelude.{◌||◌, bytes_eq}
use Rattle.std.specs.List.{All, AllPairs}
use Rattle.std.specs.Option.{option_map_or, option_to_list}
use Rattle.std.proofs.Math.Bridge.{le_prop}
use Rattle.std.proofs.lemmas.Bool.{ne_eqb}
use Rattle.std.proofs.lemmas.List.{get_or_at, get_or_append_left, length-append}
use Rattle.std.proofs.lemmas.List.Folds.{list_any_none}
use Rattle.std.proofs.lemmas.List.Sums.{sum-map, sum_by-append, sum_by-cons}
use Rattle.plural_regions.specs.declared.region.Region.{Region}
use Rattle.plural_map.specs.declared.outcome.Dep.{Dep}
use Rattle.plural_map.specs.Value.{TaskValue}
use Rattle.plural_map_text.specs.RegionOf.{region_of}
use Rattle.plural_map.specs.Lookup.{has_task}
use Rattle.plural_map_text.specs.Rules.{has_dep}
use Rattle.plural_map.proofs.Lookups.{Differ, other_name}
use mathlib.Core.HLevel.{is_prop→PathP}

-- ---- an element and those before it

-- What holds of each two elements holds of each before one and that one.
each_before : {X : Type 0} (R : X → X → Type 0) (pre : List X) (x : X) (xs : List X) → AllPairs R (pre ++ x ∷ xs) → All (λ y. R y x) pre
each_before {X = X} R pre x xs h = λ k d l.
    rw (get_or_append_left pre (x ∷ xs) d k l, get_or_at pre x xs d (length pre) refl) at (h k (length pre) d l (omega (arith, length-append pre (x ∷ xs))))

-- It holds of each two elements before.
pub pairs_before : {X : Type 0} (R : X → X → Type 0) (pre xs : List X) → AllPairs R (pre ++ xs) → AllPairs R pre
pairs_before {X = X} R pre xs h = λ i j d l m.
    rw (get_or_append_left pre xs d i (omega arith), get_or_append_left pre xs d j m) at (h i j d l (omega (arith, length-append pre xs)))

-- ---- names

-- No task before one has its name.
pub new_name : (pre : List TaskValue) (t : TaskValue) (ts : List TaskValue) → Differ (pre ++ t ∷ ts) → has_task pre t.name ≡ false
new_name pre t ts h =
    let b = each_before (λ (t u : TaskValue). t.name ≢ u.name) pre t ts h in
    list_any_none (λ x. bytes_eq x.name t.name) pre (λ k d l. other_name (get_or pre k d).name t.name (b k d l))

-- So neither those before the current one nor this one has it.
pub name_apart : (earlier : List TaskValue) (current : Option TaskValue) (name : List ℕ) → has_task (earlier ++ option_to_list current) name ≡ false
    → (has_task earlier name || option_map_or (λ t. bytes_eq t.name name) current false) ≡ false
name_apart [] None name h = refl
name_apart [] (Some t) name h = by (bytes_eq t.name name) h
  where
    by : (b : Bool) → (b || false) ≡ false → b ≡ false
    by true e = e
    by false e = refl
name_apart (x ∷ xs) current name h = by (bytes_eq x.name name) h (name_apart xs current name)
  where
    by : (b : Bool) → (b || has_task (xs ++ option_to_list current) name) ≡ false
        → (has_task (xs ++ option_to_list current) name ≡ false → (has_task xs name || option_map_or (λ t. bytes_eq t.name name) current false) ≡ false)
        → ((b || has_task xs name) || option_map_or (λ t. bytes_eq t.name name) current false) ≡ false
    by true e more = absurd cc
    by false e more = more e

-- A task that depends on different tasks doesn't depend yet on the next.
pub new_dep : (done : List Dep) (d : Dep) (ds : List Dep) (t : TaskValue) → AllPairs (λ (d e : Dep). d.task ≢ e.task) (done ++ d ∷ ds) → has_dep d.task (record t { deps = done }) ≡ false
new_dep done d ds t h =
    let b = each_before (λ (d e : Dep). d.task ≢ e.task) done d ds h in
    list_any_none (λ x. eqb x.task d.task) done (λ k e l. ne_eqb (get_or done k e).task d.task (b k e l))

-- The instances of some tasks and of the next are no more than all.
pub quotas_below : (pre : List TaskValue) (t : TaskValue) (ts : List TaskValue) → sum (map (λ t. t.quota) pre) + t.quota ≤ sum (map (λ t. t.quota) (pre ++ t ∷ ts))
quotas_below pre t ts =
    let q = λ (t : TaskValue). t.quota in
    let a = sum_by-append q pre (t ∷ ts) in
    let b = sum_by-cons q t ts in
    let c = sum-map q pre in
    let d = sum-map q (pre ++ t ∷ ts) in
    omega (arith, a, b, c, d)

-- ---- regions

-- Regions with the same mode and numbers are the same.
same_region : (r s : Region) → r.mode ≡ s.mode → r.base ≡ s.base → r.stride ≡ s.stride → r.count ≡ s.count → r ≡ s
same_region r s m b d c = λ i. record {
  mode = m i;
  base = b i;
  stride = d i;
  count = c i;
  base_limit = is_prop→PathP (λ j. b j ≤ 1048575) (λ j. le_prop) r.base_limit s.base_limit i;
  stride_limit = is_prop→PathP (λ j. d j ≤ 1048575) (λ j. le_prop) r.stride_limit s.stride_limit i;
  nonempty = is_prop→PathP (λ j. 1 ≤ c j) (λ j. le_prop) r.nonempty s.nonempty i;
  count_limit = is_prop→PathP (λ j. c j ≤ 1048576) (λ j. le_prop) r.count_limit s.count_limit i;
}

-- The numbers of a region spell it.
pub region_back : (r : Region) → region_of r.mode r.base r.stride r.count ≡ r
region_back r =
    let b = r.base_limit in
    let s = r.stride_limit in
    let l = r.nonempty in
    let h = r.count_limit in
    same_region (region_of r.mode r.base r.stride r.count) r refl (omega arith) (omega arith) (omega arith)
