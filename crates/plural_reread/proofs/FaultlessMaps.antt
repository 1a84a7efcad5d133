-- The map that lines without a fault spell is one that lines can be printed of.
use Rattle.std.proofs.Common.{◌≡◌, ℕ, zero, suc, ◌+◌, ◌*◌, ◌<◌, ◌≤◌, Bool, true, false, Some, None, Option, inl, inr, List, [], ◌∷◌, ◌++◌, length, refl, sym, subst, ◌∙◌, arith, append_assoc, ⊎_elim}
use Rattle.std.specs.Prelude.{◌==◌, ◌&&◌, ◌||◌, nat_lt, not, ⊤, MatchOption, option_map, ◌⊎◌}
use Rattle.std.specs.List.{All}
use Rattle.std.specs.Option.{option_to_list}
use Rattle.std.proofs.lemmas.Bool.{false_from_ne_true, not-false, and_parts, or_parts, ltb-false, cases_lt}
use Rattle.std.proofs.lemmas.List.{append-nil, length_push}
use Rattle.std.proofs.lemmas.List.Elements.{All-push}
use Rattle.plural_bytes.specs.Lines.{TextLine}
use Rattle.plural_sections.specs.Faults.{IsFaultless}
use Rattle.plural_sections.specs.LineKinds.{HasNone}
use Rattle.plural_sections.proofs.ReadLines.{spelled_more, spelled_same}
use Rattle.plural_base.specs.Names.{is_name}
use Rattle.plural_regions.specs.declared.region.Region.{Region}
use Rattle.plural_regions.specs.declared.region.Mode.{Mode}
use Rattle.plural_regions.specs.Bounds.{IsInside, AllInside, IsLeastOutside}
use Rattle.plural_regions.proofs.Edge.{inside_when, outside_when}
use Rattle.plural_map_text.specs.declared.line.MapLine.{MapLine}
use Rattle.plural_map_text.specs.declared.line.MapLine.TheVariants as line
use Rattle.plural_map_text.specs.declared.fault.MapKind.{MapKind}
use Rattle.plural_map_text.specs.declared.fault.MapKind.TheVariants as kinds
use Rattle.plural_map.specs.declared.outcome.Dep.{Dep}
use Rattle.plural_map.specs.Value.{TaskValue, MapValue, with_dep, with_region, with_some}
use Rattle.plural_map.specs.Limits.{IsMap}
use Rattle.plural_map.specs.Cycle.{AreWithin, ReachesAll}
use Rattle.plural_map.proofs.CycleLaws.{cycle_or_whole}
use Rattle.plural_map.proofs.DeclarationOrder.{declared_order}
use Rattle.plural_map_text.specs.RegionOf.{region_of}
use Rattle.plural_map_text.specs.Shape.{shape_of}
use Rattle.plural_map_text.specs.Parts.{Parts, with_line, nothing, tasks_of, parts_of, task_names, place_of, whole, map_of}
use Rattle.plural_map_text.specs.Near.{IsNearMap}
use Rattle.plural_map_text.specs.Rules.{most_words, most_stride, BreaksIn, HasKind, EndKind, IsMapText, IsOutsideAt, has_joined, is_out_of_place, is_out_of_range, is_misnamed, is_too_many, has}
use Rattle.plural_sections.specs.Numbers.{is_within}
use Rattle.plural_map_text.specs.Verdicts.{IsInsideAt}
use Rattle.plural_sections.proofs.Caps.{within_bounds}
use Rattle.plural_sections.proofs.FirstFaults.{last_none}
use Rattle.plural_map_text.proofs.TaskLimits.{length_all, declared_all}
use Rattle.plural_map_text.proofs.TaskLines.{tasks_counted}
use Rattle.plural_map_text.proofs.MapLimits.{IsKept, kept_nothing, kept_blank, kept_more, kept_near}
use Rattle.plural_map_text.proofs.NearMaps.{near_map}
use Rattle.plural_map_text.proofs.ReadLines.{reaches_1}
use Rattle.plural_reread.specs.Laws.{IsVersion1, MapFits, MapDeclared, MapFits2}
use Rattle.plural_reread.proofs.SpelledMaps.{IsRegionOf}
use Rattle.plural_reread.proofs.ShapeNames.{HasNames, line_named}

-- ---- regions

-- If no instance is the least outside, all lie inside.
none_up_to : (r : Region) (q w n : ℕ) → ((k : ℕ) → IsLeastOutside r q w k → ⊥) → n ≤ q → AllInside r n w
none_up_to r q w zero none h k l = absurd (omega arith)
none_up_to r q w (suc n) none h k l = by_last (none_up_to r q w n none (omega arith)) (cases_lt k n)
  where
    by_end : AllInside r n w → n ≡ k → (w < r.base + r.stride * k + r.count) ⊎ (r.base + r.stride * k + r.count ≤ w) → IsInside r k w
    by_end before e (inl high) = absurd (none k (record { below = omega arith; outside = outside_when r k w high; least = subst (λ (x : ℕ). AllInside r x w) e before }))
    by_end before e (inr low) = inside_when r k w low

    by_last : AllInside r n w → (k < n) ⊎ (n ≤ k) → IsInside r k w
    by_last before (inl low) = before k low
    by_last before (inr high) = by_end before (omega arith) (cases_lt w (r.base + r.stride * k + r.count))

inside_from : (p : Parts) (s : MapLine) → ((k : ℕ) → IsOutsideAt p s k → ⊥) → IsInsideAt p s
inside_from p (line.Memory words) none = tt
inside_from p (line.Cache sets ways) none = tt
inside_from p (line.Task name kind entry budget) none = tt
inside_from p (line.After name when) none = tt
inside_from p line.Join none = tt
inside_from p (line.Region mode base stride count) none = by_task p.current none
  where
    by_task : (t : Option TaskValue) → ((k : ℕ) → IsOutsideAt (record p { current = t }) (line.Region mode base stride count) k → ⊥) → IsInsideAt (record p { current = t }) (line.Region mode base stride count)
    by_task None none = tt
    by_task (Some t) none = none_up_to (region_of mode base stride count) t.quota p.words t.quota none (omega arith)

region_spelled : (version : ℕ) (mode : Mode) (base stride count : ℕ) → is_out_of_range version (line.Region mode base stride count) ≡ false → IsRegionOf version (region_of mode base stride count)
region_spelled version mode base stride count e =
    let p = and_parts (is_within 0 (most_stride version) base && is_within 0 (most_stride version) stride) (is_within 1 (most_words version) count) (not-false _ e) in
    let q = and_parts (is_within 0 (most_stride version) base) (is_within 0 (most_stride version) stride) p.0 in
    let b = (within_bounds 0 (most_stride version) base q.0).1 in
    let s = (within_bounds 0 (most_stride version) stride q.1).1 in
    let c = within_bounds 1 (most_words version) count p.1 in
    let l = c.0 in
    let h = c.1 in
    record { base = omega arith; stride = omega arith; count = omega arith }

-- ---- tasks

-- What lines say of a task: names, a known label, `join some` by version 2 alone, regions that lines may spell.
record IsWritten (version : ℕ) (labels : List (List ℕ)) (t : TaskValue) : Type 0 where
  pub name : is_name t.name ≡ true
  pub entry : is_name t.entry ≡ true
  pub known : has labels t.entry ≡ true
  pub every : (version == 2) ≡ false → t.some ≡ false
  pub regions : All (IsRegionOf version) t.regions

-- What holds of the parts that n lines without a fault spell.
record IsFit (version : ℕ) (labels names : List (List ℕ)) (n : ℕ) (p : Parts) : Type 0 where
  pub kept : IsKept version (length names) n p
  pub earlier : All (IsWritten version labels) p.earlier
  pub current : MatchOption p.current ⊤ (IsWritten version labels)

fit_nothing : (version : ℕ) (labels names : List (List ℕ)) → IsFit version labels names 0 nothing
fit_nothing version labels names = record { kept = kept_nothing version (length names); earlier = λ k d l. absurd (omega arith); current = tt }

all_written : (version : ℕ) (labels : List (List ℕ)) (ts : List TaskValue) (o : Option TaskValue) → All (IsWritten version labels) ts → MatchOption o ⊤ (IsWritten version labels) → All (IsWritten version labels) (ts ++ option_to_list o)
all_written version labels ts None h k = rw (append-nil ts) h
all_written version labels ts (Some t) h k = All-push (IsWritten version labels) ts t h k

dep_written : (version : ℕ) (labels : List (List ℕ)) (d : Dep) (o : Option TaskValue) → MatchOption o ⊤ (IsWritten version labels) → MatchOption (option_map (with_dep d) o) ⊤ (IsWritten version labels)
dep_written version labels d None h = tt
dep_written version labels d (Some t) h = record { name = h.name; entry = h.entry; known = h.known; every = h.every; regions = h.regions }

join_written : (version : ℕ) (labels : List (List ℕ)) (o : Option TaskValue) → (version == 2) ≡ true → MatchOption o ⊤ (IsWritten version labels) → MatchOption (option_map with_some o) ⊤ (IsWritten version labels)
join_written version labels None e h = tt
join_written version labels (Some t) e h = record { name = h.name; entry = h.entry; known = h.known; every = λ f. let g : true ≡ false = sym e ∙ f in absurd cc; regions = h.regions }

region_written : (version : ℕ) (labels : List (List ℕ)) (r : Region) (o : Option TaskValue) → IsRegionOf version r → MatchOption o ⊤ (IsWritten version labels) → MatchOption (option_map (with_region r) o) ⊤ (IsWritten version labels)
region_written version labels r None s h = tt
region_written version labels r (Some t) s h = record { name = h.name; entry = h.entry; known = h.known; every = h.every; regions = All-push (IsRegionOf version) t.regions r h.regions s }

-- One more line without a fault keeps it.
fit_more : (version : ℕ) (labels names : List (List ℕ)) (n : ℕ) (p : Parts) (s : MapLine) → IsFit version labels names n p → HasNames s → is_out_of_place version n p s ≡ false → is_out_of_range version s ≡ false → is_misnamed version labels names p s ≡ false
    → IsKept version (length names) (n + 1) (with_line names p s) → IsFit version labels names (n + 1) (with_line names p s)
fit_more version labels names n p (line.Memory words) f h o r m k = record { kept = k; earlier = f.earlier; current = f.current }
fit_more version labels names n p (line.Cache sets ways) f h o r m k = record { kept = k; earlier = f.earlier; current = f.current }
fit_more version labels names n p (line.Task name kind entry budget) f h o r m k = record {
  kept = k;
  earlier = all_written version labels p.earlier p.current f.earlier f.current;
  current = record { name = h.0; entry = h.1; known = not-false _ (or_parts _ (not (has labels entry)) m).1; every = λ e. refl; regions = λ k d l. absurd (omega arith) };
}
fit_more version labels names n p (line.After name when) f h o r m k = record {
  kept = k;
  earlier = f.earlier;
  current = dep_written version labels (record { task = place_of names name; when = when }) p.current f.current;
}
fit_more version labels names n p line.Join f h o r m k = record {
  kept = k;
  earlier = f.earlier;
  current = join_written version labels p.current (not-false (version == 2) (or_parts (not (version == 2)) (nat_lt n 2 || has_joined p) o).0) f.current;
}
fit_more version labels names n p (line.Region mode base stride count) f h o r m k = record {
  kept = k;
  earlier = f.earlier;
  current = region_written version labels (region_of mode base stride count) p.current (region_spelled version mode base stride count r) f.current;
}

-- ---- all lines

-- A line without text after two or more changes nothing.
blank_fit : (version : ℕ) (labels names : List (List ℕ)) (n : ℕ) (p : Parts) → IsFit version labels names n p → 2 ≤ n → IsFit version labels names (n + 1) p
blank_fit version labels names n p f low = record { kept = kept_blank version (length names) n p f.kept low; earlier = f.earlier; current = f.current }

-- If the line that closes a section has no fault after n lines, these are two or more.
not_early : (version total n : ℕ) (p : Parts) → HasNone (EndKind version total n p) → 2 ≤ n
not_early version total n p none = ltb-false n 2 (false_from_ne_true (nat_lt n 2) (λ h. none kinds.Form h))

line_fit : (version : ℕ) (labels names : List (List ℕ)) (total : ℕ) (before : List TextLine) (l : TextLine) → IsFit version labels names (length before) (parts_of names before) → ((k : MapKind) → BreaksIn version labels names total before l.1 k → ⊥)
    → IsFit version labels names (length (before ++ l ∷ [])) (parts_of names (before ++ l ∷ []))
line_fit version labels names total before (number, []) f none =
    let next : parts_of names (before ++ (number, []) ∷ []) ≡ parts_of names before = spelled_same shape_of (with_line names) nothing before (number, []) refl in
    rw (length_push before (number, []), next) (blank_fit version labels names (length before) (parts_of names before) f (not_early version total (length before) (parts_of names before) none))
line_fit version labels names total before (number, c ∷ cs) f none = by_shape (shape_of (c ∷ cs)) refl
  where
    l : TextLine
    l = (number, c ∷ cs)

    by_shape : (o : Option MapLine) → shape_of l.1 ≡ o → IsFit version labels names (length (before ++ l ∷ [])) (parts_of names (before ++ l ∷ []))
    by_shape None e = absurd (none kinds.Form (rw e refl))
    by_shape (Some s) e =
        let p = parts_of names before in
        let clear : (k : MapKind) → HasKind version labels names (length before) p s k → ⊥ = (λ k h. none k (rw e h)) in
        let place = false_from_ne_true (is_out_of_place version (length before) p s) (λ h. clear kinds.Form h) in
        let range = false_from_ne_true (is_out_of_range version s) (λ h. clear kinds.Number h) in
        let misnamed = false_from_ne_true (is_misnamed version labels names p s) (λ h. clear kinds.Name h) in
        let counts = false_from_ne_true (is_too_many version p s) (λ h. clear kinds.Count h) in
        let inside = inside_from p s (λ k h. clear (kinds.Outside k) h) in
        let kept = kept_more version labels names (length before) p s f.kept place range misnamed counts inside in
        let next : parts_of names (before ++ l ∷ []) ≡ with_line names p s = spelled_more shape_of (with_line names) nothing before l s e in
        rw (length_push before l, next) (fit_more version labels names (length before) p s f (line_named l.1 s e) place range misnamed kept)

lines_fit : (version : ℕ) (labels names : List (List ℕ)) (total : ℕ) (before rest : List TextLine) → IsFit version labels names (length before) (parts_of names before) → IsFaultless (BreaksIn version labels names total) (before ++ rest)
    → IsFit version labels names (length (before ++ rest)) (parts_of names (before ++ rest))
lines_fit version labels names total before [] f h = subst (λ (ls : List TextLine). IsFit version labels names (length ls) (parts_of names ls)) (sym (append-nil before)) f
lines_fit version labels names total before (l ∷ rest) f h =
    let one = line_fit version labels names total before l f (λ k b. h.none l.0 k (record { before = before; text = l.1; after = rest; whole = refl; breaks = b })) in
    let moved = append_assoc before (l ∷ []) rest in
    let all = lines_fit version labels names total (before ++ l ∷ []) rest one (subst (λ (ls : List TextLine). IsFaultless (BreaksIn version labels names total) ls) (sym moved) h) in
    subst (λ (ls : List TextLine). IsFit version labels names (length ls) (parts_of names ls)) moved all

-- ---- the whole section

near_within : (p : Parts) → IsNearMap p → AreWithin (tasks_of p)
near_within p n = λ i d l. (n.each i d l).deps_within

-- If the line that closes the section has no fault, the order reaches each task.
end_reaches : (version total m n : ℕ) (p : Parts) → IsKept version total n p → IsNearMap p → n ≡ m → HasNone (EndKind version m n p) → ReachesAll (tasks_of p)
end_reaches version total m n p k near e none = by (version == 2) refl
  where
    by : (b : Bool) → (version == 2) ≡ b → ReachesAll (tasks_of p)
    by false f = reaches_1 version total n p f k
    by true f = ⊎_elim (λ r. r) (λ c. absurd (none (kinds.Cycle c.0) (f, e, c.1))) (cycle_or_whole (tasks_of p) (near_within p near))

-- What holds of the map that lines without a fault spell.
record IsFitMap (version : ℕ) (labels : List (List ℕ)) (m : MapValue) (p : Parts) (total n : ℕ) : Type 0 where
  pub whole_is : m ≡ whole p
  pub kept : IsKept version total n p
  pub low : 2 ≤ n
  pub limits : IsMap (whole p)
  pub written : All (IsWritten version labels) (tasks_of p)

lines_map : (version : ℕ) (labels : List (List ℕ)) (lines : List TextLine) (end : ℕ) → IsMapText version labels lines end
    → IsFitMap version labels (map_of lines) (parts_of (task_names lines) lines) (length (task_names lines)) (length lines)
lines_map version labels lines end h =
    let names = task_names lines in
    let p = parts_of names lines in
    let none : HasNone (EndKind version (length lines) (length lines) p) = (λ k b. h.none end k (record { before = lines; text = []; after = []; whole = refl; breaks = b })) in
    let low : 2 ≤ length lines = not_early version (length lines) (length lines) p none in
    let fit = lines_fit version labels names (length lines) [] lines (fit_nothing version labels names) (last_none (BreaksIn version labels names (length lines)) lines (end, []) h).0 in
    let near = kept_near version (length names) (length lines) p fit.kept low (tasks_counted names lines) in
    record {
      whole_is = refl;
      kept = fit.kept;
      low = low;
      limits = near_map p near (end_reaches version (length names) (length lines) (length lines) p fit.kept near refl none);
      written = all_written version labels p.earlier p.current fit.earlier fit.current;
    }

-- The map of lines of version 1 without a fault is within all limits, one of version 1, and its entries are labels.
pub map_fits : MapFits
map_fits labels lines end h =
    let p = parts_of (task_names lines) lines in
    let total = length (task_names lines) in
    let f = lines_map 1 labels lines end h in
    let low = f.low in
    let version1 : IsVersion1 (whole p) = record {
      words = (f.kept.words (omega arith)).high;
      few_tasks = omega (arith, length_all p.earlier p.current, f.kept.tasks.few);
      each = λ i d l.
          let w = f.written i d l in
          record {
            name = w.name;
            entry = w.entry;
            every = w.every refl;
            earlier = (declared_all 1 total p.words p.earlier p.current f.kept.tasks.earlier f.kept.tasks.current i d l).before;
            regions = λ k r g. let s = w.regions k r g in record { base = s.base; stride = s.stride; count = s.count };
          };
    } in
    (f.limits, version1, λ i d l. (f.written i d l).known)

-- Its order is that of declaration, since each task depends on earlier ones alone.
pub map_declared : MapDeclared
map_declared labels lines end h = declared_order (map_of lines).tasks (λ t d l. ((map_fits labels lines end h).1.each t d l).earlier)

-- That of lines of version 2, too.
pub map_fits_2 : MapFits2
map_fits_2 labels lines end h =
    let f = lines_map 2 labels lines end h in
    (f.limits, λ i d l. record { name = (f.written i d l).name; entry = (f.written i d l).entry }, λ i d l. (f.written i d l).known)
