-- Reading map lines one after the other.
use Rattle.std.proofs.Common.{◌≡◌, ℕ, ◌+◌, ◌<◌, ◌≤◌, Bool, true, false, Some, None, Option, List, [], ◌∷◌, length, take, get_or, refl, ap, sym, subst, ◌∙◌, arith, ◌++◌}
use Rattle.std.specs.Prelude.{◌==◌, Result, Ok, Err, MatchResult, MatchOption, ⊤, nat_lt}
use Rattle.std.proofs.lemmas.Bool.{false_from_ne_true, ltb-true, lt-ltb}
use Rattle.std.proofs.lemmas.List.{map_more, length-map, length_push, take_all}
use Rattle.plural_bytes.specs.Lines.{TextLine}
use Rattle.plural_bytes.specs.declared.lines.Line.{Line}
use Rattle.plural_bytes.specs.Spelled.{text_line, text_lines}
use Rattle.plural_sections.specs.Faults.{IsFaultless, IsFirstFault, closed}
use Rattle.plural_sections.specs.LineKinds.{HasNone, IsLeast, BreaksBy}
use Rattle.plural_sections.proofs.FirstFaults.{length_before}
use Rattle.plural_sections.proofs.ReadLines as reading
use Rattle.plural_map_text.specs.declared.line.MapLine.{MapLine}
use Rattle.plural_map_text.specs.declared.fault.MapKind.{MapKind}
use Rattle.plural_map_text.specs.declared.fault.MapKind.TheVariants as kinds
use Rattle.plural_sections.specs.declared.line_error.LineError.{LineError}
use Rattle.plural_sections.specs.declared.line_error.LineError.TheVariants as error
use Rattle.plural_map.specs.Value.{MapValue}
use Rattle.plural_map.specs.Cycle.{IsCycleNamed, ReachesAll}
use Rattle.plural_map.proofs.CycleLaws.{one_cycle}
use Rattle.plural_map.proofs.DeclarationOrder.{declared_order, among_range}
use Rattle.plural_map_text.specs.Shape.{shape_of}
use Rattle.plural_map_text.specs.Parts.{Parts, tasks_of, with_line, with_read, nothing, task_names, parts_of, whole, map_of}
use Rattle.plural_map_text.specs.Near.{IsNearMap, IsCycleAt}
use Rattle.plural_map_text.specs.Rules.{HasKind, EndKind, BreaksIn, IsMapText, rank, Faults, is_out_of_place, is_out_of_range, is_misnamed, is_too_many}
use Rattle.plural_map_text.specs.Verdicts.{IsInsideAt, IsFine, IsFaultAt}
use Rattle.plural_map_text.proofs.Verdicts.{no_kind}
use Rattle.plural_map_text.proofs.TaskLines.{tasks_counted}
use Rattle.plural_map_text.proofs.MapLimits.{IsKept, kept_nothing, kept_blank, kept_more, kept_near, kept_in_order}

-- The rule of the lines with a text.
abbrev Lines : (version : ℕ) → (labels names : List (List ℕ)) → List TextLine → List ℕ → MapKind → Type 0
Lines version labels names = BreaksBy shape_of kinds.Form (parts_of names) (HasKind version labels names)

-- ---- what the reader knows after some lines

-- After these lines of a section of so many lines, whose task lines have these names: none has a fault, they spell the
-- parts, and these are within the limits.
pub record Reads (version : ℕ) (labels names : List (List ℕ)) (total : ℕ) (lines : List TextLine) (p : Parts) : Type 0 where
  pub known : reading.Reads (BreaksIn version labels names total) (parts_of names) lines p
  pub kept : IsKept version (length names) (length lines) p

-- Before any line.
pub reads_nothing : (version : ℕ) (labels names : List (List ℕ)) (total : ℕ) → Reads version labels names total [] nothing
reads_nothing version labels names total = record { known = reading.reads_nothing rank (BreaksIn version labels names total) (parts_of names) nothing refl; kept = kept_nothing version (length names) }

-- ---- a line with a fault

form_low : (k : MapKind) → 1 ≤ rank k
form_low kinds.Form = omega arith
form_low kinds.Number = omega arith
form_low kinds.Name = omega arith
form_low kinds.Count = omega arith
form_low (kinds.Outside k) = omega arith
form_low (kinds.Cycle cycle) = omega arith

-- The fault of a line after lines without one is the least of its kinds.
least_here : (version : ℕ) (labels names : List (List ℕ)) (total : ℕ) (before : List TextLine) (text : List ℕ) (n : ℕ) (p : Parts) (kind : MapKind) → n ≡ length before → p ≡ parts_of names before
    → IsFaultAt version labels names n p text kind → IsLeast rank (BreaksIn version labels names total before text) kind
least_here version labels names total before [] n p kind e v f =
    let early : nat_lt (length before) 2 ≡ true = rw (← e) f.1 in
    (subst (λ (k : MapKind). EndKind version total (length before) (parts_of names before) k) (sym f.0) early, λ k b. subst (λ (x : MapKind). rank x ≤ rank k) (sym f.0) (form_low k))
least_here version labels names total before (c ∷ cs) n p kind e v f = reading.least_by rank shape_of kinds.Form (parts_of names) (HasKind version labels names) before (c ∷ cs) n p kind e v f

-- It is the first of the section.
pub line_first : (version : ℕ) (labels names : List (List ℕ)) (total : ℕ) (xs : List Line) (end i : ℕ) (d : Line) (p : Parts) (kind : MapKind) → i < length xs
    → Reads version labels names total (text_lines (take i xs)) p → IsFaultAt version labels names i p (get_or xs i d).text.now kind
    → IsFirstFault rank (BreaksIn version labels names total) (closed (text_lines xs) end) (get_or xs i d).number kind
line_first version labels names total xs end i d p kind l r f =
    reading.closed_first rank (BreaksIn version labels names total) (parts_of names) xs end i d p kind l r.known
    (least_here version labels names total (text_lines (take i xs)) (get_or xs i d).text.now i p kind (sym (length_before xs i (omega arith))) r.known.spelled f)

-- ---- a line without one

-- A line of this shape after n lines that spell the parts passes all tests.
pub record Passes (version : ℕ) (labels names : List (List ℕ)) (n : ℕ) (p : Parts) (s : MapLine) : Type 0 where
  pub place : is_out_of_place version n p s ≡ false
  pub range : is_out_of_range version s ≡ false
  pub named : is_misnamed version labels names p s ≡ false
  pub counts : is_too_many version p s ≡ false
  pub inside : IsInsideAt p s

some_text : (text : List ℕ) (s : MapLine) → shape_of text ≡ Some s → text ≡ [] → ⊥
some_text text s e z = let f : None ≡ Some s = sym (ap shape_of z) ∙ e in cc

-- A line with a text has no kind if it has none by the rule of these.
none_other : (version : ℕ) (labels names : List (List ℕ)) (total : ℕ) (before : List TextLine) (text : List ℕ) → (text ≡ [] → ⊥) → HasNone (Lines version labels names before text) → HasNone (BreaksIn version labels names total before text)
none_other version labels names total before [] some none k b = absurd (some refl)
none_other version labels names total before (c ∷ cs) some none k b = none k b

-- A line without text has none after two lines or more, if it doesn't stand after all of them or the order reaches each
-- task.
none_closing : (version : ℕ) (labels names : List (List ℕ)) (total : ℕ) (before : List TextLine) (text : List ℕ) → text ≡ [] → 2 ≤ length before → ((cycle : List (List ℕ)) → length before ≡ total → IsCycleNamed (tasks_of (parts_of names before)) cycle → ⊥)
    → HasNone (BreaksIn version labels names total before text)
none_closing version labels names total before text e low none k b = by k (subst (λ (t : List ℕ). BreaksIn version labels names total before t k) e b)
  where
    by : (k : MapKind) → EndKind version total (length before) (parts_of names before) k → ⊥
    by kinds.Form h = let few : length before < 2 = ltb-true (length before) 2 h in omega arith
    by kinds.Number h = h
    by kinds.Name h = h
    by kinds.Count h = h
    by (kinds.Outside i) h = h
    by (kinds.Cycle cycle) h = none cycle h.1 h.2

-- One line more that has a shape and passes all tests.
pub reads_push : (version : ℕ) (labels names : List (List ℕ)) (total : ℕ) (lines : List TextLine) (l : TextLine) (p : Parts) (s : MapLine) → Reads version labels names total lines p → shape_of l.1 ≡ Some s
    → Passes version labels names (length lines) p s → Reads version labels names total (lines ++ l ∷ []) (with_line names p s)
reads_push version labels names total lines l p s r e f = record {
  known = reading.reads_push rank (BreaksIn version labels names total) (parts_of names) lines l p (with_line names p s) r.known
      (none_other version labels names total lines l.1 (some_text l.1 s e)
      (reading.none_by rank shape_of kinds.Form (parts_of names) (HasKind version labels names) lines l.1 (length lines) p s refl r.known.spelled e (no_kind version labels names (length lines) p s f.place f.range f.named f.counts f.inside)))
      (ap (λ x. with_line names x s) r.known.spelled ∙ sym (reading.spelled_more shape_of (with_line names) nothing lines l s e));
  kept = rw (length_push lines l) (kept_more version labels names (length lines) p s r.kept f.place f.range f.named f.counts f.inside);
}

-- One more line without text, after two or more and before the end.
reads_blank : (version : ℕ) (labels names : List (List ℕ)) (total : ℕ) (lines : List TextLine) (l : TextLine) (p : Parts) → Reads version labels names total lines p → l.1 ≡ [] → 2 ≤ length lines → length lines < total
    → Reads version labels names total (lines ++ l ∷ []) p
reads_blank version labels names total lines l p r e low more = record {
  known = reading.reads_push rank (BreaksIn version labels names total) (parts_of names) lines l p p r.known (none_closing version labels names total lines l.1 e low (λ cycle all c. absurd (omega arith)))
      (r.known.spelled ∙ sym (reading.spelled_same shape_of (with_line names) nothing lines l (ap shape_of e)));
  kept = rw (length_push lines l) (kept_blank version (length names) (length lines) p r.kept low);
}

-- Numbers of what was read without a fault are in their ranges.
pub fine_range : (version : ℕ) (labels names : List (List ℕ)) (n : ℕ) (p : Parts) (text : List ℕ) (o : Option MapLine) → IsFine version labels names n p text o → MatchOption o ⊤ (λ s. is_out_of_range version s ≡ false)
fine_range version labels names n p text None f = tt
fine_range version labels names n p text (Some s) f = false_from_ne_true _ (λ e. f.1 kinds.Number e)

-- There is room for it.
pub fine_room : (version : ℕ) (labels names : List (List ℕ)) (n : ℕ) (p : Parts) (text : List ℕ) (o : Option MapLine) → IsFine version labels names n p text o → MatchOption o ⊤ (λ s. is_too_many version p s ≡ false)
fine_room version labels names n p text None f = tt
fine_room version labels names n p text (Some s) f = false_from_ne_true _ (λ e. f.1 kinds.Count e)

-- One line more of the code.
pub reads_more : (version : ℕ) (labels names : List (List ℕ)) (total : ℕ) (xs : List Line) (i : ℕ) (d : Line) (p next : Parts) (o : Option MapLine) → total ≡ length xs → i < length xs
    → Reads version labels names total (text_lines (take i xs)) p → IsFine version labels names i p (get_or xs i d).text.now o → next ≡ with_read names p o → Reads version labels names total (text_lines (take (i + 1) xs)) next
reads_more version labels names total xs i d p next o all l r f n = rw (map_more text_line xs i d l, n) (by_line o f)
  where
    by_line : (o : Option MapLine) → IsFine version labels names i p (get_or xs i d).text.now o → Reads version labels names total (text_lines (take i xs) ++ text_line (get_or xs i d) ∷ []) (with_read names p o)
    by_line None f =
        let here = length_before xs i (omega arith) in
        reads_blank version labels names total (text_lines (take i xs)) (text_line (get_or xs i d)) p r f.0 (omega (arith, here, f.1)) (omega (arith, here))
    by_line (Some s) f =
        let passes : Passes version labels names i p s = record {
          place = false_from_ne_true _ (λ h. f.1 kinds.Form h);
          range = false_from_ne_true _ (λ h. f.1 kinds.Number h);
          named = false_from_ne_true _ (λ h. f.1 kinds.Name h);
          counts = false_from_ne_true _ (λ h. f.1 kinds.Count h);
          inside = f.2;
        } in
        reads_push version labels names total (text_lines (take i xs)) (text_line (get_or xs i d)) p s r (sym f.0) (rw (length_before xs i (omega arith)) passes)

-- After all lines.
pub reads_all : (version : ℕ) (labels names : List (List ℕ)) (total : ℕ) (xs : List Line) (i : ℕ) (p : Parts) → length xs ≤ i → Reads version labels names total (text_lines (take i xs)) p
    → Reads version labels names total (text_lines xs) p
reads_all version labels names total xs i p h r = subst (λ (ys : List Line). Reads version labels names total (text_lines ys) p) (take_all i xs h) r

-- ---- the line that closes the section

-- After fewer than two lines it has a fault of form.
pub short_first : (version : ℕ) (labels names : List (List ℕ)) (total : ℕ) (xs : List Line) (end : ℕ) (p : Parts) → Reads version labels names total (text_lines xs) p → length xs < 2
    → IsFirstFault rank (BreaksIn version labels names total) (closed (text_lines xs) end) end kinds.Form
short_first version labels names total xs end p r h =
    let few : length (text_lines xs) < 2 = rw (length-map xs text_line) h in
    reading.closing_first rank (BreaksIn version labels names total) (parts_of names) (text_lines xs) end p kinds.Form r.known (lt-ltb (length (text_lines xs)) 2 few, λ k b. form_low k)

-- The parts that all lines spell are within all limits but for the order.
pub read_near : (version : ℕ) (labels names : List (List ℕ)) (total : ℕ) (xs : List Line) (p : Parts) → names ≡ task_names (text_lines xs) → Reads version labels names total (text_lines xs) p → 2 ≤ length xs → IsNearMap p
read_near version labels names total xs p e r h =
    kept_near version (length names) (length (text_lines xs)) p r.kept (rw (length-map xs text_line) h)
    (ap length e ∙ tasks_counted names (text_lines xs) ∙ ap (λ (q : Parts). length (tasks_of q)) (sym r.known.spelled))

-- After two lines or more without a fault it has none, if the order reaches each task.
pub closed_faultless : (version : ℕ) (labels names : List (List ℕ)) (total : ℕ) (lines : List TextLine) (end : ℕ) (p : Parts) → reading.Reads (BreaksIn version labels names total) (parts_of names) lines p → 2 ≤ length lines
    → ReachesAll (tasks_of p) → IsFaultless (BreaksIn version labels names total) (closed lines end)
closed_faultless version labels names total lines end p r h all =
    reading.closed_faultless rank (BreaksIn version labels names total) (parts_of names) lines end p r
    (none_closing version labels names total lines [] refl h (λ cycle n c. (one_cycle (tasks_of p)).none cycle all (subst (λ (q : Parts). IsCycleNamed (tasks_of q) cycle) (sym r.spelled) c)))

-- By version 1 the order reaches each.
pub reaches_1 : (version total n : ℕ) (p : Parts) → (version == 2) ≡ false → IsKept version total n p → ReachesAll (tasks_of p)
reaches_1 version total n p e k t l = rw (declared_order (tasks_of p) (kept_in_order version total n p e k)) (among_range 0 (length (tasks_of p)) t (omega arith) (omega arith))

-- A cycle is the fault of the line that closes the section.
cycle_first : (version : ℕ) (labels names : List (List ℕ)) (total : ℕ) (lines : List TextLine) (end : ℕ) (p : Parts) (cycle : List (List ℕ)) → Reads version labels names total lines p → 2 ≤ length lines → length lines ≡ total
    → IsCycleNamed (tasks_of p) cycle → IsFirstFault rank (BreaksIn version labels names total) (closed lines end) end (kinds.Cycle cycle)
cycle_first version labels names total lines end p cycle r low all c =
    reading.closing_first rank (BreaksIn version labels names total) (parts_of names) lines end p (kinds.Cycle cycle) r.known ((by (version == 2) refl, all, subst (λ (q : Parts). IsCycleNamed (tasks_of q) cycle) r.known.spelled c), least)
  where
    by : (b : Bool) → (version == 2) ≡ b → (version == 2) ≡ true
    by true e = e
    by false e = absurd ((one_cycle (tasks_of p)).none cycle (reaches_1 version (length names) (length lines) p e r.kept) c)

    least : (k : MapKind) → EndKind version total (length lines) (parts_of names lines) k → 7 ≤ rank k
    least kinds.Form h = let few : length lines < 2 = ltb-true (length lines) 2 h in absurd (omega arith)
    least kinds.Number h = absurd h
    least kinds.Name h = absurd h
    least kinds.Count h = absurd h
    least (kinds.Outside i) h = absurd h
    least (kinds.Cycle other) h = omega arith

-- ---- what the reader answers

answer : (version : ℕ) (labels names : List (List ℕ)) (total : ℕ) (xs : List Line) (end : ℕ) (p : Parts) (r : Result MapValue (LineError MapKind)) → names ≡ task_names (text_lines xs) → total ≡ length (text_lines xs)
    → Reads version labels names total (text_lines xs) p → 2 ≤ length xs → MatchResult r (λ m. (m ≡ whole p) × ReachesAll (tasks_of p)) (IsCycleAt end (tasks_of p))
    → MatchResult r (λ m. IsMapText version labels (text_lines xs) end × (m ≡ map_of (text_lines xs))) (λ e. Faults version labels (text_lines xs) end e)
answer version labels names total xs end p (Ok m) n t r h ok =
    let low : 2 ≤ length (text_lines xs) = omega (arith, length-map xs text_line) in (
      subst (λ (ns : List (List ℕ)). IsFaultless (BreaksIn version labels ns (length (text_lines xs))) (closed (text_lines xs) end)) n
          (subst (λ (k : ℕ). IsFaultless (BreaksIn version labels names k) (closed (text_lines xs) end)) t (closed_faultless version labels names total (text_lines xs) end p r.known low ok.1)),
      ok.0 ∙ ap whole (r.known.spelled ∙ ap (λ (ns : List (List ℕ)). parts_of ns (text_lines xs)) n),
    )
answer version labels names total xs end p (Err error.Memory) n t r h e = tt
answer version labels names total xs end p (Err (error.At number (kinds.Cycle cycle))) n t r h e =
    let low : 2 ≤ length (text_lines xs) = omega (arith, length-map xs text_line) in
    let first = cycle_first version labels names total (text_lines xs) end p cycle r low (sym t) e.1 in
    subst (λ (i : ℕ). IsFirstFault rank (BreaksIn version labels (task_names (text_lines xs)) (length (text_lines xs))) (closed (text_lines xs) end) i (kinds.Cycle cycle)) (sym e.0)
    (subst (λ (ns : List (List ℕ)). IsFirstFault rank (BreaksIn version labels ns (length (text_lines xs))) (closed (text_lines xs) end) end (kinds.Cycle cycle)) n
    (subst (λ (k : ℕ). IsFirstFault rank (BreaksIn version labels names k) (closed (text_lines xs) end) end (kinds.Cycle cycle)) t first))
answer version labels names total xs end p (Err (error.At number kinds.Form)) n t r h e = absurd e
answer version labels names total xs end p (Err (error.At number kinds.Number)) n t r h e = absurd e
answer version labels names total xs end p (Err (error.At number kinds.Name)) n t r h e = absurd e
answer version labels names total xs end p (Err (error.At number kinds.Count)) n t r h e = absurd e
answer version labels names total xs end p (Err (error.At number (kinds.Outside k))) n t r h e = absurd e

-- What the reader answers after a whole section.
pub read_answer : (version : ℕ) (labels names : List (List ℕ)) (xs : List Line) (end : ℕ) (p : Parts) (r : Result MapValue (LineError MapKind)) → names ≡ task_names (text_lines xs)
    → Reads version labels names (length xs) (text_lines xs) p → 2 ≤ length xs → MatchResult r (λ m. (m ≡ whole p) × ReachesAll (tasks_of p)) (IsCycleAt end (tasks_of p))
    → MatchResult r (λ m. IsMapText version labels (text_lines xs) end × (m ≡ map_of (text_lines xs))) (λ e. Faults version labels (text_lines xs) end e)
read_answer version labels names xs end p r n k h f = answer version labels names (length xs) xs end p r n (sym (length-map xs text_line)) k h f

-- A first fault by the names of all task lines is one by the lines.
pub first_told : (version : ℕ) (labels names : List (List ℕ)) (xs : List Line) (end number : ℕ) (kind : MapKind) → names ≡ task_names (text_lines xs)
    → IsFirstFault rank (BreaksIn version labels names (length xs)) (closed (text_lines xs) end) number kind → Faults version labels (text_lines xs) end (error.At number kind)
first_told version labels names xs end number kind n f =
    subst (λ (ns : List (List ℕ)). IsFirstFault rank (BreaksIn version labels ns (length (text_lines xs))) (closed (text_lines xs) end) number kind) n
    (subst (λ (k : ℕ). IsFirstFault rank (BreaksIn version labels names k) (closed (text_lines xs) end) number kind) (sym (length-map xs text_line)) f)
