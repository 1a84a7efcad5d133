-- A printed map is read again.
use Rattle.std.proofs.Common.{◌≡◌, ℕ, ◌+◌, ◌%◌, ◌<◌, ◌≤◌, ◌≢◌, Bool, true, false, ◌||◌, not, Some, None, Option, List, [], ◌∷◌, ◌++◌, length, map, sum, get_or, refl, ap, sym, subst, ◌∙◌, arith, append_assoc}
use Rattle.std.specs.Prelude.{◌==◌, nat_lt, bytes_eq, codes, decimal, flat_map}
use Rattle.std.specs.List.{AllPairs, list_all}
use Rattle.std.specs.Option.{option_to_list}
use Rattle.std.proofs.lemmas.Bool.{le-leb, lt-leb, le-ltb}
use Rattle.std.proofs.lemmas.List.{append-nil, length-append, length-map, get_or_at}
use Rattle.std.proofs.lemmas.List.Folds.{list_any_at}
use Rattle.plural_base.proofs.ListTests.{position_map}
use Rattle.plural_bytes.specs.Lines.{TextLine, pieces, content_from, content_lines}
use Rattle.plural_base.specs.Names.{is_name}
use Rattle.plural_bytes.proofs.Tokens.{is_token, joined, tokens_joined, line_next}
use Rattle.plural_sections.specs.Faults.{IsFaultless, closed}
use Rattle.plural_regions.specs.declared.region.Region.{Region}
use Rattle.plural_regions.specs.Rights.{is_in}
use Rattle.plural_regions.specs.Bounds.{AllInside}
use Rattle.plural_regions.proofs.Regions.{is_in_when}
use Rattle.plural_map_text.specs.declared.line.MapLine.TheVariants as line
use Rattle.plural_map.specs.declared.outcome.Dep.{Dep}
use Rattle.plural_map.specs.Value.{TaskValue, MapValue}
use Rattle.plural_map.specs.Limits.{IsTask, IsMap}
use Rattle.plural_map.specs.Order.{is_among, order_of}
use Rattle.plural_map.specs.Cycle.{ReachesAll}
use Rattle.plural_map_text.specs.Shape.{shape, shape_of}
use Rattle.plural_map_text.specs.Parts.{Parts, nothing, with_line, whole, map_of, quota_of, tasks_of, parts_of, task_names, place_of}
use Rattle.plural_map.specs.Lookup.{name_at, has_task}
use Rattle.plural_map_text.specs.Print.{line_text, when_text, mode_text, task_line, dep_text, join_text, region_text, task_text, map_text}
use Rattle.plural_map_text.specs.Rules.{most_words, most_stride, most_tasks, BreaksIn, IsMapText, has, has_dep, nameable, task_count, instance_count}
use Rattle.plural_map_text.proofs.TaskLimits.{bound, length_all, quotas_all}
use Rattle.plural_map_text.proofs.TaskLines.{names_in, tasks_named}
use Rattle.plural_map_text.proofs.MapLimits.{words_most}
use Rattle.plural_map_text.proofs.ReadLines.{Reads, Passes, reads_nothing, reads_push, closed_faultless}
use Rattle.plural_map.proofs.Lookups.{Differ, number_at, named_at}
use Rattle.plural_reread.specs.Laws.{AreLabelled, MapRoundTrip, MapRoundTrip2}
use Rattle.plural_reread.proofs.SpelledMaps.{IsRegionOf, IsTaskOf, IsSpelled, spelled_1, spelled_2}
use Rattle.plural_reread.proofs.Steps.{Leads, no_step, two_steps, line_step}
use Rattle.plural_reread.proofs.Shapes.{line_joined, memory_all, memory_shape, cache_all, cache_shape, sets_small, kind_of, dup_back, quota_back, task_tokens, task_joined, task_all, task_shape, after_all, after_shape, join_all, join_shape, region_all, region_shape}
use Rattle.plural_reread.proofs.Lookups.{new_name, name_apart, new_dep, quotas_below, region_back}

-- ---- a task of the map

-- The parts after some tasks.
abbrev after_tasks : MapValue → List TaskValue → Option TaskValue → Parts
after_tasks m earlier current = record { words = m.words; sets = m.sets; ways = m.ways; earlier = earlier; current = current }

-- The parts inside a task, with some of its dependencies and regions.
abbrev during : MapValue → List TaskValue → TaskValue → Bool → List Dep → List Region → Parts
during m pre t some deps regions = after_tasks m pre (Some (record t { some = some; deps = deps; regions = regions }))

-- What holds of the task after some.
record IsNext (version : ℕ) (m : MapValue) (labels : List (List ℕ)) (pre : List TaskValue) (t : TaskValue) : Type 0 where
  pub task : IsTask m.words m.tasks t
  pub spelled : IsTaskOf version (length m.tasks) (length pre) t
  pub labelled : has labels t.entry ≡ true
  pub new : has_task pre t.name ≡ false
  pub differ : Differ m.tasks
  pub named : (k : ℕ) → k < length m.tasks → is_name (name_at m.tasks k) ≡ true
  pub room : length pre < most_tasks version
  pub instances : sum (map (λ t. t.quota) pre) + t.quota ≤ 65536

next_is : (version : ℕ) (m : MapValue) (labels : List (List ℕ)) (pre : List TaskValue) (t : TaskValue) (ts : List TaskValue) → IsMap m → IsSpelled version m → AreLabelled labels m.tasks
    → m.tasks ≡ pre ++ t ∷ ts → IsNext version m labels pre t
next_is version m labels pre t ts limits small entries e =
    let many : length m.tasks ≡ length pre + length (t ∷ ts) = ap length e ∙ length-append pre (t ∷ ts) in
    let low : length pre < length m.tasks = omega arith in
    let here : get_or m.tasks (length pre) t ≡ t = ap (λ (xs : List TaskValue). get_or xs (length pre) t) e ∙ get_or_at pre t ts t (length pre) refl in
    let differ : Differ (pre ++ t ∷ ts) = subst (λ (xs : List TaskValue). Differ xs) e limits.names_differ in
    record {
      task = subst (λ (x : TaskValue). IsTask m.words m.tasks x) here (limits.each (length pre) t low);
      spelled = subst (λ (x : TaskValue). IsTaskOf version (length m.tasks) (length pre) x) here (small.each (length pre) t low);
      labelled = subst (λ (x : TaskValue). has labels x.entry ≡ true) here (entries (length pre) t low);
      new = new_name pre t ts differ;
      differ = limits.names_differ;
      named = λ k l. named_at m.tasks k (λ i d h. (small.each i d h).name) l;
      room = let f = small.few_tasks in omega arith;
      instances =
          let q = quotas_below pre t ts in
          let f : sum (map (λ (t : TaskValue). t.quota) (pre ++ t ∷ ts)) ≤ 65536 = subst (λ (xs : List TaskValue). sum (map (λ (t : TaskValue). t.quota) xs) ≤ 65536) e limits.few_instances in
          omega arith;
    }

-- ---- its own line

task_fine : (version : ℕ) (m : MapValue) (labels names : List (List ℕ)) (earlier : List TaskValue) (current : Option TaskValue) (t : TaskValue) (n : ℕ) → IsNext version m labels (earlier ++ option_to_list current) t → 2 ≤ n
    → Passes version labels names n (after_tasks m earlier current) (line.Task t.name (kind_of t.dup t.quota) t.entry t.budget)
task_fine version m labels names earlier current t n h low =
    let quota = quota_back t.dup t.quota h.task.regular in
    let a = h.task.quota_low in
    let b = h.task.quota_high in
    let c = h.task.budget_low in
    let d = h.task.budget_high in
    let few : task_count (after_tasks m earlier current) < most_tasks version = omega (arith, h.room, length_all earlier current) in
    let sums : instance_count (after_tasks m earlier current) + t.quota ≤ 65536 = omega (arith, h.instances, quotas_all earlier current) in
    record {
      place = le-ltb n 2 low;
      range = rw (quota, le-leb 1 t.quota a, le-leb t.quota 16384 b, le-leb 1 t.budget c, le-leb t.budget 100000000 d) refl;
      named = rw (name_apart earlier current t.name h.new, h.labelled) refl;
      counts = rw (quota, lt-leb (most_tasks version) (task_count (after_tasks m earlier current)) few, le-ltb 65536 (instance_count (after_tasks m earlier current) + t.quota) sums) refl;
      inside = tt;
    }

-- The parts after the line of a task.
opened : (m : MapValue) (names : List (List ℕ)) (earlier : List TaskValue) (current : Option TaskValue) (t : TaskValue) → (t.dup ≡ false → t.quota ≡ 1)
    → with_line names (after_tasks m earlier current) (line.Task t.name (kind_of t.dup t.quota) t.entry t.budget) ≡ during m (earlier ++ option_to_list current) t false [] []
opened m names earlier current t regular =
    let quota : quota_of (kind_of t.dup t.quota) ≡ t.quota = quota_back t.dup t.quota regular in
    λ i. record {
      words = m.words;
      sets = m.sets;
      ways = m.ways;
      earlier = earlier ++ option_to_list current;
      current = Some (record { name = t.name; dup = dup_back t.dup t.quota i; quota = quota i; entry = t.entry; budget = t.budget; some = false; deps = []; regions = [] });
    }

task_step : (version : ℕ) (m : MapValue) (labels names : List (List ℕ)) (earlier : List TaskValue) (current : Option TaskValue) (t : TaskValue) → IsNext version m labels (earlier ++ option_to_list current) t
    → Leads version labels names (after_tasks m earlier current) (task_line t) (during m (earlier ++ option_to_list current) t false [] [])
task_step version m labels names earlier current t h =
    let a = h.task.quota_high in
    let b = h.task.budget_high in
    let name = h.spelled.name in
    let entry = h.spelled.entry in
    let step = line_step version labels names (after_tasks m earlier current) (line.Task t.name (kind_of t.dup t.quota) t.entry t.budget) (task_line t) (codes "task") (task_tokens t.dup t.quota t.name t.entry t.budget) (task_joined t)
    (task_all t.dup t.quota t.name t.entry t.budget (omega arith) name entry (omega arith)) (task_shape t.dup t.quota t.name t.entry t.budget (omega arith) name entry (omega arith))
    (λ n low. task_fine version m labels names earlier current t n h low) in
    subst (λ (q : Parts). Leads version labels names (after_tasks m earlier current) (task_line t) q) (opened m names earlier current t h.task.regular) step

-- ---- its dependencies

-- The place of a task's name among those of all tasks is its number.
place_is : (tasks : List TaskValue) (k : ℕ) → Differ tasks → k < length tasks → place_of (names_in tasks) (name_at tasks k) ≡ k
place_is tasks k h l = position_map (λ n. bytes_eq n (name_at tasks k)) (λ (t : TaskValue). t.name) tasks ∙ number_at tasks k h l

dep_step : (version : ℕ) (m : MapValue) (labels : List (List ℕ)) (pre : List TaskValue) (t : TaskValue) (done : List Dep) (d : Dep) (ds : List Dep) → IsNext version m labels pre t → t.deps ≡ done ++ d ∷ ds
    → Leads version labels (names_in m.tasks) (during m pre t false done []) (dep_text m.tasks d) (during m pre t false (done ++ d ∷ []) [])
dep_step version m labels pre t done d ds h e =
    let names = names_in m.tasks in
    let many : length t.deps ≡ length done + length (d ∷ ds) = ap length e ∙ length-append done (d ∷ ds) in
    let here : get_or t.deps (length done) d ≡ d = ap (λ (xs : List Dep). get_or xs (length done) d) e ∙ get_or_at done d ds d (length done) refl in
    let within : d.task < length m.tasks = subst (λ (x : Dep). x.task < length m.tasks) here (h.task.deps_within (length done) d (omega arith)) in
    let low : d.task < bound version (length m.tasks) (length pre) = subst (λ (x : Dep). x.task < bound version (length m.tasks) (length pre)) here (h.spelled.before (length done) d (omega arith)) in
    let is : is_name (name_at m.tasks d.task) ≡ true = h.named d.task within in
    let number : place_of names (name_at m.tasks d.task) ≡ d.task = place_is m.tasks d.task h.differ within in
    let there : d.task < nameable version names (during m pre t false done []) = subst (λ (k : ℕ). d.task < bound version k (length pre)) (sym (length-map m.tasks (λ (t : TaskValue). t.name))) low in
    let new : has_dep d.task (record t { some = false; deps = done; regions = [] }) ≡ false = new_dep done d ds t (subst (λ (xs : List Dep). AllPairs (λ (d e : Dep). d.task ≢ e.task) xs) e h.task.deps_differ) in
    let few : length done < 16 = let f = h.task.few_deps in omega arith in
    let step = line_step version labels names (during m pre t false done []) (line.After (name_at m.tasks d.task) d.when) (dep_text m.tasks d) (codes "after") (name_at m.tasks d.task ∷ when_text d.when ∷ [])
    (line_joined (codes "after") (name_at m.tasks d.task ∷ when_text d.when ∷ [])) (after_all (name_at m.tasks d.task) d.when is) (after_shape (name_at m.tasks d.task) d.when is)
    (λ n low. record { place = rw (le-ltb n 2 low) refl; range = refl; named = rw (number, lt-leb (nameable version names (during m pre t false done [])) d.task there, new) refl; counts = lt-leb 16 (length done) few; inside = tt }) in
    subst (λ (k : ℕ). Leads version labels names (during m pre t false done []) (dep_text m.tasks d) (during m pre t false (done ++ record { task = k; when = d.when } ∷ []) [])) number step

deps_steps : (version : ℕ) (m : MapValue) (labels : List (List ℕ)) (pre : List TaskValue) (t : TaskValue) (done ds : List Dep) → IsNext version m labels pre t → t.deps ≡ done ++ ds
    → Leads version labels (names_in m.tasks) (during m pre t false done []) (flat_map (dep_text m.tasks) ds) (during m pre t false t.deps [])
deps_steps version m labels pre t done [] h e =
    subst (λ (ds : List Dep). Leads version labels (names_in m.tasks) (during m pre t false done []) [] (during m pre t false ds [])) (sym (e ∙ append-nil done)) (no_step version labels (names_in m.tasks) (during m pre t false done []))
deps_steps version m labels pre t done (d ∷ ds) h e =
    two_steps version labels (names_in m.tasks) (during m pre t false done []) (during m pre t false (done ++ d ∷ []) []) (during m pre t false t.deps []) (dep_text m.tasks d) (flat_map (dep_text m.tasks) ds)
    (dep_step version m labels pre t done d ds h e) (deps_steps version m labels pre t (done ++ d ∷ []) ds h (e ∙ sym (append_assoc done (d ∷ []) ds)))

-- ---- `join some`

join_step : (version : ℕ) (m : MapValue) (labels names : List (List ℕ)) (pre : List TaskValue) (t : TaskValue) (some : Bool) → ((version == 2) ≡ false → some ≡ false)
    → Leads version labels names (during m pre t false t.deps []) (join_text some) (during m pre t some t.deps [])
join_step version m labels names pre t false h = no_step version labels names (during m pre t false t.deps [])
join_step version m labels names pre t true h =
    line_step version labels names (during m pre t false t.deps []) line.Join (join_text true) (codes "join") (codes "some" ∷ []) refl join_all join_shape
    (λ n low. record { place = by (version == 2) refl n low; range = refl; named = refl; counts = refl; inside = tt })
  where
    by : (b : Bool) → (version == 2) ≡ b → (n : ℕ) → 2 ≤ n → (not (version == 2) || (nat_lt n 2 || false)) ≡ false
    by true e n low = rw (e, le-ltb n 2 low) refl
    by false e n low = let f : true ≡ false = h e in absurd cc

-- ---- its regions

region_step : (version : ℕ) (m : MapValue) (labels names : List (List ℕ)) (pre : List TaskValue) (t : TaskValue) (done : List Region) (r : Region) (rs : List Region) → IsNext version m labels pre t → t.regions ≡ done ++ r ∷ rs
    → Leads version labels names (during m pre t t.some t.deps done) (region_text r) (during m pre t t.some t.deps (done ++ r ∷ []))
region_step version m labels names pre t done r rs h e =
    let many : length t.regions ≡ length done + length (r ∷ rs) = ap length e ∙ length-append done (r ∷ rs) in
    let low : length done < length t.regions = omega arith in
    let here : get_or t.regions (length done) r ≡ r = ap (λ (xs : List Region). get_or xs (length done) r) e ∙ get_or_at done r rs r (length done) refl in
    let small : IsRegionOf version r = subst (λ (x : Region). IsRegionOf version x) here (h.spelled.regions (length done) r low) in
    let base = small.base in
    let stride = small.stride in
    let count = small.count in
    let b = r.base_limit in
    let s = r.stride_limit in
    let c = r.count_limit in
    let some = r.nonempty in
    let few : length done < 8 = let f = h.task.few_regions in omega arith in
    let inside : AllInside r t.quota m.words =
    (λ k l a i. h.task.inside k a l (list_any_at (λ (x : Region). is_in x k a) t.regions (length done) r low (rw here (is_in_when r k a i)))) in
    let back = region_back r in
    let step = line_step version labels names (during m pre t t.some t.deps done) (line.Region r.mode r.base r.stride r.count) (region_text r) (mode_text r.mode) (decimal r.base ∷ decimal r.stride ∷ decimal r.count ∷ [])
    (line_joined (mode_text r.mode) (decimal r.base ∷ decimal r.stride ∷ decimal r.count ∷ [])) (region_all r.mode r.base r.stride r.count (omega arith) (omega arith) (omega arith))
    (region_shape r.mode r.base r.stride r.count (omega arith) (omega arith) (omega arith))
    (λ n low. record {
      place = rw (le-ltb n 2 low) refl;
      range = rw (le-leb 0 r.base (omega arith), le-leb 0 r.stride (omega arith), le-leb r.base (most_stride version) base, le-leb r.stride (most_stride version) stride, le-leb 1 r.count some, le-leb r.count (most_words version) count) refl;
      named = refl;
      counts = lt-leb 8 (length done) few;
      inside = subst (λ (x : Region). AllInside x t.quota m.words) (sym back) inside;
    }) in
    subst (λ (x : Region). Leads version labels names (during m pre t t.some t.deps done) (region_text r) (during m pre t t.some t.deps (done ++ x ∷ []))) back step

regions_steps : (version : ℕ) (m : MapValue) (labels names : List (List ℕ)) (pre : List TaskValue) (t : TaskValue) (done rs : List Region) → IsNext version m labels pre t → t.regions ≡ done ++ rs
    → Leads version labels names (during m pre t t.some t.deps done) (flat_map region_text rs) (during m pre t t.some t.deps t.regions)
regions_steps version m labels names pre t done [] h e =
    subst (λ (rs : List Region). Leads version labels names (during m pre t t.some t.deps done) [] (during m pre t t.some t.deps rs)) (sym (e ∙ append-nil done)) (no_step version labels names (during m pre t t.some t.deps done))
regions_steps version m labels names pre t done (r ∷ rs) h e =
    two_steps version labels names (during m pre t t.some t.deps done) (during m pre t t.some t.deps (done ++ r ∷ [])) (during m pre t t.some t.deps t.regions) (region_text r) (flat_map region_text rs)
    (region_step version m labels names pre t done r rs h e) (regions_steps version m labels names pre t (done ++ r ∷ []) rs h (e ∙ sym (append_assoc done (r ∷ []) rs)))

-- ---- the whole task, and all tasks

whole_task : (version : ℕ) (m : MapValue) (labels : List (List ℕ)) (earlier : List TaskValue) (current : Option TaskValue) (t : TaskValue) → IsNext version m labels (earlier ++ option_to_list current) t
    → Leads version labels (names_in m.tasks) (after_tasks m earlier current) (task_text m.tasks t) (after_tasks m (earlier ++ option_to_list current) (Some t))
whole_task version m labels earlier current t h =
    let names = names_in m.tasks in
    let pre = earlier ++ option_to_list current in
    let regions = flat_map region_text t.regions in
    let deps = flat_map (dep_text m.tasks) t.deps in
    let last = two_steps version labels names (during m pre t false t.deps []) (during m pre t t.some t.deps []) (after_tasks m pre (Some t)) (join_text t.some) regions (join_step version m labels names pre t t.some h.spelled.every) (regions_steps version m labels names pre t [] t.regions h refl) in
    let back = two_steps version labels names (during m pre t false [] []) (during m pre t false t.deps []) (after_tasks m pre (Some t)) deps (join_text t.some ++ regions) (deps_steps version m labels pre t [] t.deps h refl) last in
    two_steps version labels names (after_tasks m earlier current) (during m pre t false [] []) (after_tasks m pre (Some t)) (task_line t) (deps ++ (join_text t.some ++ regions)) (task_step version m labels names earlier current t h) back

-- A text leads from the parts to the tasks of the map.
record Ends (version : ℕ) (m : MapValue) (labels : List (List ℕ)) (p : Parts) (text : List ℕ) : Type 0 where
  pub earlier : List TaskValue
  pub current : Option TaskValue
  pub all : m.tasks ≡ earlier ++ option_to_list current
  pub leads : Leads version labels (names_in m.tasks) p text (after_tasks m earlier current)

tasks_steps : (version : ℕ) (m : MapValue) (labels : List (List ℕ)) (earlier : List TaskValue) (current : Option TaskValue) (ts : List TaskValue) → IsMap m → IsSpelled version m → AreLabelled labels m.tasks
    → m.tasks ≡ (earlier ++ option_to_list current) ++ ts → Ends version m labels (after_tasks m earlier current) (flat_map (task_text m.tasks) ts)
tasks_steps version m labels earlier current [] limits small entries e = record {
  earlier = earlier;
  current = current;
  all = e ∙ append-nil (earlier ++ option_to_list current);
  leads = no_step version labels (names_in m.tasks) (after_tasks m earlier current);
}
tasks_steps version m labels earlier current (t ∷ ts) limits small entries e =
    let pre = earlier ++ option_to_list current in
    let one = whole_task version m labels earlier current t (next_is version m labels pre t ts limits small entries e) in
    let more = tasks_steps version m labels pre (Some t) ts limits small entries (e ∙ sym (append_assoc pre (t ∷ []) ts)) in
    record {
      earlier = more.earlier;
      current = more.current;
      all = more.all;
      leads = two_steps version labels (names_in m.tasks) (after_tasks m earlier current) (after_tasks m pre (Some t)) (after_tasks m more.earlier more.current) (task_text m.tasks t) (flat_map (task_text m.tasks) ts) one more.leads;
    }

-- ---- the first two lines, and the whole map

first_fine : (version : ℕ) (labels names : List (List ℕ)) (words : ℕ) → 8 ≤ words → words ≤ most_words version → words % 8 ≡ 0 → Passes version labels names 0 nothing (line.Memory words)
first_fine version labels names words low high even = record { place = refl; range = rw (le-leb 8 words low, le-leb words (most_words version) high, even) refl; named = refl; counts = refl; inside = tt }

second_fine : (version : ℕ) (m : MapValue) (labels names : List (List ℕ)) (p : Parts) → IsMap m → Passes version labels names 1 p (line.Cache m.sets m.ways)
second_fine version m labels names p limits = record { place = refl; range = rw (limits.sets, le-leb 1 m.ways limits.ways_low, le-leb m.ways 4 limits.ways_high) refl; named = refl; counts = refl; inside = tt }

-- The map of the parts after all its tasks.
whole_is : (m : MapValue) (earlier : List TaskValue) (current : Option TaskValue) → IsMap m → m.tasks ≡ earlier ++ option_to_list current → whole (after_tasks m earlier current) ≡ m
whole_is m earlier current limits e =
    let order = sym (limits.ordered ∙ ap order_of e) in
    λ i. record { words = m.words; sets = m.sets; ways = m.ways; tasks = sym e i; order = order i }

reaches : (m : MapValue) → IsMap m → ReachesAll m.tasks
reaches m limits t l = subst (λ (xs : List ℕ). is_among t xs ≡ true) limits.ordered (limits.reaches t l)

-- Lines that spell the parts after all tasks of the map spell the map.
ends_round_trip : (version : ℕ) (m : MapValue) (labels : List (List ℕ)) (end : ℕ) (lines : List TextLine) (earlier : List TaskValue) (current : Option TaskValue) → IsMap m → m.tasks ≡ earlier ++ option_to_list current → 2 ≤ length lines
    → Reads version labels (names_in m.tasks) (length lines) lines (after_tasks m earlier current) → IsMapText version labels lines end × (map_of lines ≡ m)
ends_round_trip version m labels end lines earlier current limits e low r =
    let p = after_tasks m earlier current in
    let names : names_in m.tasks ≡ task_names lines = ap names_in e ∙ ap (λ (q : Parts). names_in (tasks_of q)) r.known.spelled ∙ tasks_named (names_in m.tasks) lines in
    let all : ReachesAll (tasks_of p) = subst ReachesAll e (reaches m limits) in (
      subst (λ (ns : List (List ℕ)). IsFaultless (BreaksIn version labels ns (length lines)) (closed lines end)) names (closed_faultless version labels (names_in m.tasks) (length lines) lines end p r.known low all),
      ap (λ (ns : List (List ℕ)). whole (parts_of ns lines)) (sym names) ∙ ap whole (sym r.known.spelled) ∙ whole_is m earlier current limits e,
    )

shaped : (t : List ℕ) (ts : List (List ℕ)) → list_all is_token (t ∷ ts) ≡ true → shape_of (joined (t ∷ ts)) ≡ shape (t ∷ ts)
shaped t ts h = ap shape (tokens_joined t ts h)

-- The first two lines of a map.
abbrev two_lines : MapValue → List TextLine
two_lines m = (1, joined (codes "memory" ∷ decimal m.words ∷ [])) ∷ (2, joined (codes "cache" ∷ decimal m.sets ∷ decimal m.ways ∷ [])) ∷ []

two_read : (version : ℕ) (m : MapValue) (labels names : List (List ℕ)) (total : ℕ) → IsMap m → m.words ≤ most_words version → m.words < 4294967296 → m.ways < 4294967296 → Reads version labels names total (two_lines m) (after_tasks m [] None)
two_read version m labels names total limits high words ways =
    let sets = sets_small m.sets limits.sets in
    let memory = joined (codes "memory" ∷ decimal m.words ∷ []) in
    let cache = joined (codes "cache" ∷ decimal m.sets ∷ decimal m.ways ∷ []) in
    let first = reads_push version labels names total [] (1, memory) nothing (line.Memory m.words) (reads_nothing version labels names total) (shaped (codes "memory") (decimal m.words ∷ []) (memory_all m.words words) ∙ memory_shape m.words words)
    (first_fine version labels names m.words limits.words_low high limits.words_whole) in
    reads_push version labels names total ((1, memory) ∷ []) (2, cache) (with_line names nothing (line.Memory m.words)) (line.Cache m.sets m.ways) first
    (shaped (codes "cache") (decimal m.sets ∷ decimal m.ways ∷ []) (cache_all m.sets m.ways sets ways) ∙ cache_shape m.sets m.ways sets ways) (second_fine version m labels names (with_line names nothing (line.Memory m.words)) limits)

map_joined : (m : MapValue) (tasks : List ℕ) → line_text (codes "memory" ∷ decimal m.words ∷ []) ++ (line_text (codes "cache" ∷ decimal m.sets ∷ decimal m.ways ∷ []) ++ tasks)
    ≡ joined (codes "memory" ∷ decimal m.words ∷ []) ++ 10 ∷ (joined (codes "cache" ∷ decimal m.sets ∷ decimal m.ways ∷ []) ++ 10 ∷ (tasks ++ []))
map_joined m tasks = simp (append_assoc, append-nil) refl

two_cut : (m : MapValue) (tasks : List ℕ) → IsMap m → m.words < 4294967296 → m.ways < 4294967296
    → content_lines (line_text (codes "memory" ∷ decimal m.words ∷ []) ++ (line_text (codes "cache" ∷ decimal m.sets ∷ decimal m.ways ∷ []) ++ tasks)) ≡ two_lines m ++ content_from 3 (pieces (tasks ++ []))
two_cut m tasks limits words ways =
    let cache = joined (codes "cache" ∷ decimal m.sets ∷ decimal m.ways ∷ []) in
    let first = line_next 1 (codes "memory") (decimal m.words ∷ []) (cache ++ 10 ∷ (tasks ++ [])) (memory_all m.words words) in
    let second = line_next 2 (codes "cache") (decimal m.sets ∷ decimal m.ways ∷ []) (tasks ++ []) (cache_all m.sets m.ways (sets_small m.sets limits.sets) ways) in
    ap (λ x. content_from 1 (pieces x)) (map_joined m tasks) ∙ first ∙ ap (λ x. (1, joined (codes "memory" ∷ decimal m.words ∷ [])) ∷ x) second

round_trip : (version : ℕ) (m : MapValue) (labels : List (List ℕ)) (end : ℕ) → IsMap m → IsSpelled version m → AreLabelled labels m.tasks → IsMapText version labels (content_lines (map_text m)) end × (map_of (content_lines (map_text m)) ≡ m)
round_trip version m labels end limits small entries =
    let high = small.words in
    let most = limits.ways_high in
    let words : m.words < 4294967296 = omega (arith, words_most version) in
    let ways : m.ways < 4294967296 = omega arith in
    let tasks = flat_map (task_text m.tasks) m.tasks in
    let ends = tasks_steps version m labels [] None m.tasks limits small entries refl in
    let all = content_lines (map_text m) in
    let passed = ends.leads 3 (length all) (two_lines m) [] (omega arith) (two_read version m labels (names_in m.tasks) (length all) limits high words ways) in
    let lines : all ≡ two_lines m ++ passed.lines = two_cut m tasks limits words ways ∙ ap (λ x. two_lines m ++ x) (passed.cut ∙ append-nil passed.lines) in
    let low : 2 ≤ length all = rw lines (omega (arith, length-append (two_lines m) passed.lines)) in
    ends_round_trip version m labels end all ends.earlier ends.current limits ends.all low
    (subst (λ (ls : List TextLine). Reads version labels (names_in m.tasks) (length all) ls (after_tasks m ends.earlier ends.current)) (sym lines) passed.reads)

-- Reading a printed map of version 1 gives the map.
pub map_round_trip : MapRoundTrip
map_round_trip m labels end limits small entries = round_trip 1 m labels end limits (spelled_1 m small) entries

-- And one of version 2.
pub map_round_trip_2 : MapRoundTrip2
map_round_trip_2 m labels end limits small entries = round_trip 2 m labels end limits (spelled_2 m limits small) entries
