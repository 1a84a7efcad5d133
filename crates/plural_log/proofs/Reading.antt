-- Reading log lines one after the other.
use Rattle.std.proofs.Common.{◌≡◌, ℕ, suc, ◌+◌, ◌-◌, ◌<◌, ◌≤◌, Bool, true, false, leb, Some, None, Option, List, [], ◌∷◌, ◌++◌, length, take, get_or, refl, ap, sym, subst, ◌∙◌, arith}
use Rattle.std.specs.Prelude.{MatchOption, ⊤, bytes_eq}
use Rattle.std.specs.List.{All}
use Rattle.std.proofs.lemmas.Bool.{not-false, and_parts, eqb-true, leb-true, leb-false, lt-ltb, false_from_ne_true, both_ways}
use Rattle.std.proofs.lemmas.List.Elements.{All-push}
use Rattle.std.proofs.lemmas.List.{map_more, length-map, length_push, take_all}
use Rattle.plural_bytes.specs.Lines.{TextLine}
use Rattle.plural_bytes.specs.declared.lines.Line.{Line}
use Rattle.plural_bytes.specs.Spelled.{text_line, text_lines}
use Rattle.plural_sections.specs.Faults.{IsFaultless, IsFirstFault, closed}
use Rattle.plural_sections.specs.LineKinds.{HasNone, IsLeast, BreaksBy}
use Rattle.plural_sections.proofs.FirstFaults.{length_before}
use Rattle.plural_sections.proofs.ReadLines as reading
use Rattle.plural_map.specs.Lookup.{number_of, has_task}
use Rattle.plural_map.specs.Value.{TaskValue}
use Rattle.plural_trace.specs.declared.entry.Entry.{Entry}
use Rattle.plural_log.specs.declared.line.LogLine.{LogLine}
use Rattle.plural_log.specs.declared.line.LogLine.TheVariants as line
use Rattle.plural_log.specs.declared.judge_line.FaultlessLine.{FaultlessLine}
use Rattle.plural_log.specs.declared.fault.LogKind.{LogKind}
use Rattle.plural_log.specs.declared.fault.LogKind.TheVariants as kinds
use Rattle.plural_trace.specs.Logs.{LogValue}
use Rattle.plural_log.specs.Shape.{shape_of}
use Rattle.plural_log.specs.Numbers.{task_of}
use Rattle.plural_log.specs.Spelled.{entry_value, with_line, nothing, log_of}
use Rattle.plural_log.specs.Faults.{HasKind, Breaks, is_out_of_place, is_out_of_range, is_misnamed, is_too_many, rank}
use Rattle.plural_log.specs.Verdicts.{IsFine, IsShapeFault, IsFaultAt, with_read}

-- ---- the kinds of a line

-- A line that passes all tests has no kind.
pub no_kind : (tasks : List TaskValue) (n entries : ℕ) (s : LogLine) → is_out_of_place (length tasks) n s ≡ false → is_out_of_range s ≡ false → is_misnamed tasks n s ≡ false → is_too_many entries s ≡ false
    → HasNone (HasKind tasks n entries s)
no_kind tasks n entries s a b c d kinds.Form h = both_ways _ a h
no_kind tasks n entries s a b c d kinds.Number h = both_ways _ b h
no_kind tasks n entries s a b c d kinds.Name h = both_ways _ c h
no_kind tasks n entries s a b c d kinds.Count h = both_ways _ d h

rank_low : (k : LogKind) → 1 ≤ rank k
rank_low kinds.Form = omega arith
rank_low kinds.Number = omega arith
rank_low kinds.Name = omega arith
rank_low kinds.Count = omega arith

-- Numbers of what was read without a fault are in their ranges.
pub fine_range : (tasks : List TaskValue) (n entries : ℕ) (text : List ℕ) (o : Option FaultlessLine) → IsFine tasks n entries text o → MatchOption o ⊤ (λ s. is_out_of_range s.line ≡ false)
fine_range tasks n entries text None f = tt
fine_range tasks n entries text (Some s) f = false_from_ne_true _ (λ e. f.1 kinds.Number e)

-- The task of what was read without a fault is the one that its line names.
pub fine_task : (tasks : List TaskValue) (n entries : ℕ) (text : List ℕ) (o : Option FaultlessLine) → IsFine tasks n entries text o → MatchOption o ⊤ (λ s. s.task ≡ task_of tasks s.line)
fine_task tasks n entries text None f = tt
fine_task tasks n entries text (Some s) f = f.2

-- ---- what the reader knows after some lines

-- If a task has the name, its number is below the count.
number_below : (name : List ℕ) (ts : List TaskValue) → has_task ts name ≡ true → number_of name ts < length ts
number_below name [] e = absurd cc
number_below name (t ∷ ts) e = by_first (bytes_eq t.name name) refl (number_below name ts)
  where
    by_first : (b : Bool) → bytes_eq t.name name ≡ b → (has_task ts name ≡ true → number_of name ts < length ts) → number_of name (t ∷ ts) < suc (length ts)
    by_first true f later = rw f (omega arith)
    by_first false f later = let l : number_of name ts < length ts = later (rw f at e) in rw f (omega arith)

-- The outcomes and entries that n lines give, for this many tasks.
pub record IsCounted (tasks n : ℕ) (log : LogValue) : Type 0 where
  pub outcomes : length log.outcomes ≡ (n - 1) - (n - (tasks + 1))
  pub few : length log.entries ≤ 65536
  pub known : All (λ (e : Entry). e.rec.t < tasks) log.entries

counted_more : (tasks : List TaskValue) (n : ℕ) (log : LogValue) (s : LogLine) → is_out_of_place (length tasks) n s ≡ false → is_misnamed tasks n s ≡ false → is_too_many (length log.entries) s ≡ false
    → IsCounted (length tasks) n log → IsCounted (length tasks) (n + 1) (with_line tasks log s)
counted_more tasks n log (line.First cores) p m t c =
    let zero : n ≡ 0 = eqb-true n 0 (not-false _ p) in
    record { outcomes = let o = c.outcomes in omega arith; few = c.few; known = c.known }
counted_more tasks n log (line.Task name outcome) p m t c =
    let q = and_parts (leb 1 n) (leb n (length tasks)) (not-false _ p) in
    let low : 1 ≤ n = leb-true _ _ q.0 in
    let high : n ≤ length tasks = leb-true _ _ q.1 in
    record { outcomes = let o = c.outcomes in omega (arith, length_push log.outcomes outcome); few = c.few; known = c.known }
counted_more tasks n log (line.Run name k e cs ts) p m t c =
    let high : length tasks < n = leb-false _ _ p in
    let room : length log.entries < 65536 = leb-false _ _ t in
    let below = number_below name tasks (not-false _ m) in
    record {
      outcomes = let o = c.outcomes in omega arith;
      few = omega (arith, length_push log.entries (entry_value tasks name k e cs ts));
      known = All-push (λ (e : Entry). e.rec.t < length tasks) log.entries (entry_value tasks name k e cs ts) c.known below;
    }

-- The line that closes the section gives nothing.
counted_blank : (tasks n : ℕ) (log : LogValue) → tasks < n → IsCounted tasks n log → IsCounted tasks (n + 1) log
counted_blank tasks n log l c = record { outcomes = let o = c.outcomes in omega arith; few = c.few; known = c.known }

-- Lines without a fault, and the log that they spell.
pub record Reads (tasks : List TaskValue) (lines : List TextLine) (log : LogValue) : Type 0 where
  pub known : reading.Reads (Breaks tasks) (log_of tasks) lines log
  pub counted : IsCounted (length tasks) (length lines) log

-- Before the first line nothing is read.
pub reads_nothing : (tasks : List TaskValue) → Reads tasks [] nothing
reads_nothing tasks = record {
  known = reading.reads_nothing rank (Breaks tasks) (log_of tasks) nothing refl;
  counted = record { outcomes = omega arith; few = omega arith; known = λ k d lt. absurd (omega arith) };
}

-- The rule of the lines with a text.
abbrev Lines : List TaskValue → List TextLine → List ℕ → LogKind → Type 0
Lines tasks = BreaksBy shape_of kinds.Form (log_of tasks) (λ n log. HasKind tasks n (length log.entries))

-- ---- a line with a fault

-- The fault of a line after lines without one is the least of its kinds.
least_here : (tasks : List TaskValue) (before : List TextLine) (text : List ℕ) (n : ℕ) (log : LogValue) (kind : LogKind) → n ≡ length before → Reads tasks before log → IsFaultAt tasks n (length log.entries) text kind
    → IsLeast rank (Breaks tasks before text) kind
least_here tasks before text n log kind e r f =
    reading.least_closed rank kinds.Form (length tasks + 1) (Lines tasks) rank_low (IsShapeFault tasks n (length log.entries)) before text n kind e
    (λ t g. reading.least_by rank shape_of kinds.Form (log_of tasks) (λ n log. HasKind tasks n (length log.entries)) before t n log kind e r.known.spelled g) f

-- It is the first of the section.
pub line_first : (tasks : List TaskValue) (xs : List Line) (end i : ℕ) (d : Line) (log : LogValue) (kind : LogKind) → i < length xs → Reads tasks (text_lines (take i xs)) log
    → IsFaultAt tasks i (length log.entries) (get_or xs i d).text.now kind → IsFirstFault rank (Breaks tasks) (closed (text_lines xs) end) (get_or xs i d).number kind
line_first tasks xs end i d log kind l r f =
    reading.closed_first rank (Breaks tasks) (log_of tasks) xs end i d log kind l r.known
    (least_here tasks (text_lines (take i xs)) (get_or xs i d).text.now i log kind (sym (length_before xs i (omega arith))) r f)

-- ---- a line without one

some_text : (text : List ℕ) (s : LogLine) → shape_of text ≡ Some s → text ≡ [] → ⊥
some_text text s e z = let f : None ≡ Some s = sym (ap shape_of z) ∙ e in cc

-- One more line without a fault, after lines that were read.
pub reads_push : (tasks : List TaskValue) (lines : List TextLine) (l : TextLine) (log : LogValue) (s : LogLine) → Reads tasks lines log → shape_of l.1 ≡ Some s → HasNone (HasKind tasks (length lines) (length log.entries) s)
    → Reads tasks (lines ++ l ∷ []) (with_line tasks log s)
reads_push tasks lines l log s r e v = record {
  known = reading.reads_push rank (Breaks tasks) (log_of tasks) lines l log (with_line tasks log s) r.known
      (reading.none_other rank kinds.Form (length tasks + 1) (Lines tasks) lines l.1 (some_text l.1 s e)
      (reading.none_by rank shape_of kinds.Form (log_of tasks) (λ n log. HasKind tasks n (length log.entries)) lines l.1 (length lines) log s refl r.known.spelled e v))
      (ap (λ x. with_line tasks x s) r.known.spelled ∙ sym (reading.spelled_more shape_of (with_line tasks) nothing lines l s e));
  counted = rw (length_push lines l) (counted_more tasks (length lines) log s (false_from_ne_true _ (λ h. v kinds.Form h)) (false_from_ne_true _ (λ h. v kinds.Name h)) (false_from_ne_true _ (λ h. v kinds.Count h)) r.counted);
}

-- One more line without text, after all task lines.
reads_blank : (tasks : List TaskValue) (lines : List TextLine) (l : TextLine) (log : LogValue) → Reads tasks lines log → l.1 ≡ [] → length tasks < length lines → Reads tasks (lines ++ l ∷ []) log
reads_blank tasks lines l log r e h = record {
  known = reading.reads_push rank (Breaks tasks) (log_of tasks) lines l log log r.known (reading.none_closing rank kinds.Form (length tasks + 1) (Lines tasks) lines l.1 e (omega arith))
      (r.known.spelled ∙ sym (reading.spelled_same shape_of (with_line tasks) nothing lines l (ap shape_of e)));
  counted = rw (length_push lines l) (counted_blank (length tasks) (length lines) log h r.counted);
}

-- One more line of those that are read.
pub reads_more : (tasks : List TaskValue) (xs : List Line) (i : ℕ) (d : Line) (log next : LogValue) (o : Option FaultlessLine) → i < length xs → Reads tasks (text_lines (take i xs)) log
    → IsFine tasks i (length log.entries) (get_or xs i d).text.now o → next ≡ with_read tasks log o → Reads tasks (text_lines (take (i + 1) xs)) next
reads_more tasks xs i d log next o l r f n = rw (map_more text_line xs i d l, n) (by_line o f)
  where
    by_line : (o : Option FaultlessLine) → IsFine tasks i (length log.entries) (get_or xs i d).text.now o → Reads tasks (text_lines (take i xs) ++ text_line (get_or xs i d) ∷ []) (with_read tasks log o)
    by_line None f = reads_blank tasks (text_lines (take i xs)) (text_line (get_or xs i d)) log r f.0 (rw (length_before xs i (omega arith)) f.1)
    by_line (Some s) f = reads_push tasks (text_lines (take i xs)) (text_line (get_or xs i d)) log s.line r (sym f.0) (rw (length_before xs i (omega arith)) f.1)

-- After the last line all are read.
pub reads_all : (tasks : List TaskValue) (xs : List Line) (i : ℕ) (log : LogValue) → length xs ≤ i → Reads tasks (text_lines (take i xs)) log → Reads tasks (text_lines xs) log
reads_all tasks xs i log h r = subst (λ (ys : List Line). Reads tasks (text_lines ys) log) (take_all i xs h) r

-- ---- the line that closes the section

-- If not all task lines stand before it, it has a fault of form.
pub end_first : (tasks : List TaskValue) (xs : List Line) (end : ℕ) (log : LogValue) → Reads tasks (text_lines xs) log → length xs ≤ length tasks → IsFirstFault rank (Breaks tasks) (closed (text_lines xs) end) end kinds.Form
end_first tasks xs end log r h =
    reading.closing_first rank (Breaks tasks) (log_of tasks) (text_lines xs) end log kinds.Form r.known
    ((refl, lt-ltb (length (text_lines xs)) (length tasks + 1) (omega (arith, length-map xs text_line, h))), λ k b. rank_low k)

-- If all do, the section has no fault.
pub closed_reads : (tasks : List TaskValue) (lines : List TextLine) (end : ℕ) (log : LogValue) → Reads tasks lines log → length tasks < length lines → IsFaultless (Breaks tasks) (closed lines end)
closed_reads tasks lines end log r h =
    reading.closed_faultless rank (Breaks tasks) (log_of tasks) lines end log r.known (reading.none_closing rank kinds.Form (length tasks + 1) (Lines tasks) lines [] refl (omega arith))

-- The same of the lines as they are read.
pub closed_faultless : (tasks : List TaskValue) (xs : List Line) (end : ℕ) (log : LogValue) → Reads tasks (text_lines xs) log → length tasks < length xs → IsFaultless (Breaks tasks) (closed (text_lines xs) end)
closed_faultless tasks xs end log r h = closed_reads tasks (text_lines xs) end log r (rw (length-map xs text_line) h)

-- A log that was read has one outcome for each task.
pub one_each : (tasks : List TaskValue) (xs : List Line) (log : LogValue) → Reads tasks (text_lines xs) log → length tasks < length xs → length log.outcomes ≡ length tasks
one_each tasks xs log r h = let o = r.counted.outcomes in omega (arith, o, h, length-map xs text_line)
