-- The lines of a printed log: they end with it, none closes a section, and their numbers play no part.
use Rattle.std.proofs.Common.{◌≡◌, ℕ, ◌+◌, Bool, true, false, cond, None, List, [], ◌∷◌, ◌++◌, length, refl, ap, sym, subst, ◌∙◌, arith, append_assoc}
use Rattle.std.specs.Prelude.{◌==◌, codes, decimal, filter, flat_map, map, MatchOption}
use Rattle.std.specs.Option.{option_map_or}
use Rattle.std.specs.List.{AllByRecursion, enumerate_from, onto_first, slice_split}
use Rattle.std.proofs.lemmas.Bool.{eqb-true, lt-ltb}
use Rattle.plural_bytes.specs.Lines.{TextLine, is_blank, pieces, content, has_text}
use Rattle.plural_sections.specs.Faults.{IsFaultless}
use Rattle.plural_sections.specs.LineKinds.{ClosesEarly}
use Rattle.plural_sections.specs.Sections.{closes}
use Rattle.plural_sections.specs.Texts.{LineRule}
use Rattle.plural_sections.proofs.Closings.{NoneCloses}
use Rattle.plural_map.specs.declared.outcome.Outcome.{Outcome}
use Rattle.plural_map.specs.Value.{TaskValue, MapValue}
use Rattle.plural_trace.specs.declared.entry.Entry.{Entry}
use Rattle.plural_trace.specs.Logs.{LogValue}
use Rattle.plural_log.specs.declared.fault.LogKind.{LogKind}
use Rattle.plural_log.specs.declared.fault.LogKind.TheVariants as log_kind
use Rattle.plural_log.specs.Faults.{Breaks, HasKind}
use Rattle.plural_log.specs.Print.{outcome_text, task_text, task_texts, end_text, counts_text, times_text, entry_text, log_text}
use Rattle.plural_log.specs.Shape.{shape, shape_of}
use Rattle.plural_log.specs.Spelled.{with_line, nothing, log_of}
use Rattle.plural_made.proofs.LineNumbers.{texts, ReadsTexts, fold_again, length_again, lines_from}
use Rattle.plural_made.proofs.TextLines.{EndsLine, ends_nothing, ends_with, ends_both, ends_each}

-- ---- a log ends its lines

-- The text has a line end at its end.
abbrev IsEnded : List ℕ → Type 0
IsEnded text = (front : List ℕ) × (text ≡ front ++ 10 ∷ [])

ended_after : (s t : List ℕ) → IsEnded t → IsEnded (s ++ t)
ended_after s t e = (s ++ e.0, ap (λ x. s ++ x) e.1 ∙ sym (append_assoc s e.0 (10 ∷ [])))

ends_line : (text : List ℕ) → IsEnded text → EndsLine text
ends_line text e = subst EndsLine (sym e.1) (ends_with e.0)

task_ends : (t : TaskValue) (o : Outcome) → EndsLine (task_text t o)
task_ends t o =
    ends_line (task_text t o)
    (ended_after (codes "task ") _ (ended_after t.name _ (ended_after (codes " ") _ (ended_after (outcome_text o) (codes "\n") ([], refl)))))

tasks_end : (ts : List TaskValue) (os : List Outcome) → EndsLine (task_texts ts os)
tasks_end [] os = ends_nothing
tasks_end (t ∷ ts) [] = ends_nothing
tasks_end (t ∷ ts) (o ∷ os) = ends_both (task_text t o) (task_texts ts os) (task_ends t o) (tasks_end ts os)

entry_ends : (tasks : List TaskValue) (e : Entry) → EndsLine (entry_text tasks e)
entry_ends tasks e =
    let last : IsEnded (times_text e) =
    ended_after (codes " core ") _ (ended_after (decimal e.core) _ (ended_after (codes " from ") _ (ended_after (decimal e.start) _
    (ended_after (codes " to ") _ (ended_after (decimal e.end_at) (codes "\n") ([], refl)))))) in
    ends_line (entry_text tasks e)
    (ended_after (codes "run ") _ (ended_after _ _ (ended_after (codes " ") _ (ended_after (decimal e.rec.k) _ (ended_after (codes " ") _
    (ended_after (end_text e.rec.«end») _ (ended_after (counts_text e.rec) (times_text e) last)))))))

-- A printed log ends its lines.
pub log_ends : (m : MapValue) (log : LogValue) → EndsLine (log_text m log)
log_ends m log =
    let head = codes "log 1 cores " ++ (decimal log.cores ++ codes "\n") in
    let tasks = task_texts m.tasks log.outcomes in
    let runs = flat_map (entry_text m.tasks) log.entries in
    let first : EndsLine head = ends_line head (ended_after (codes "log 1 cores ") _ (ended_after (decimal log.cores) (codes "\n") ([], refl))) in
    let entries : EndsLine runs = ends_each (entry_text m.tasks) log.entries (entry_ends m.tasks) in
    ends_both head (tasks ++ runs) first (ends_both tasks runs (tasks_end m.tasks log.outcomes) entries)

-- ---- no line of a log closes a section

-- What a line without a kind of fault has holds of each line of lines without a fault.
each_line : {K : Type 0} (Rule : LineRule K) (P : TextLine → Type 0) → ((before : List TextLine) (l : TextLine) → ((k : K) → Rule before l.1 k → ⊥) → P l) → (before rest : List TextLine) → IsFaultless Rule (before ++ rest)
    → AllByRecursion P rest
each_line Rule P h before [] f = tt
each_line Rule P h before (l ∷ ls) f = (
  h before l (λ k b. f.none l.0 k (record { before = before; text = l.1; after = ls; whole = refl; breaks = b })),
  each_line Rule P h (before ++ l ∷ []) ls (subst (IsFaultless Rule) (sym (append_assoc before (l ∷ []) ls)) f),
)

-- A text that begins with `[` has no shape of a log line.
no_shape : (cs : List ℕ) → shape_of (91 ∷ cs) ≡ None
no_shape cs = by (slice_split is_blank cs)
  where
    by : (ps : List (List ℕ)) → shape (filter has_text (onto_first 91 ps)) ≡ None
    by [] = refl
    by (p ∷ ps) = rw (lt-ltb 0 (length (91 ∷ p)) (omega arith)) refl

bracket_breaks : (tasks : List TaskValue) (before : List TextLine) (cs : List ℕ) → Breaks tasks before (91 ∷ cs) log_kind.Form
bracket_breaks tasks before cs = rw (no_shape cs) refl

-- A log line without a fault that has a text closes no section.
Stays : TextLine → Type 0
Stays l = has_text l.1 ≡ true → closes l.1 ≡ false

line_stays : (tasks : List TaskValue) (before : List TextLine) (l : TextLine) → ((k : LogKind) → Breaks tasks before l.1 k → ⊥) → Stays l
unfolding Stays
line_stays tasks before l h t = by l.1 h t
  where
    by : (text : List ℕ) → ((k : LogKind) → Breaks tasks before text k → ⊥) → has_text text ≡ true → closes text ≡ false
    by [] h t = absurd (let e : false ≡ true = t in cc)
    by (c ∷ cs) h t = cases (c == 91) refl
      where
        cases : (b : Bool) → (c == 91) ≡ b → closes (c ∷ cs) ≡ false
        cases true e = absurd (h log_kind.Form (subst (λ d. Breaks tasks before (d ∷ cs) log_kind.Form) (sym (eqb-true c 91 e)) (bracket_breaks tasks before cs)))
        cases false e = e

stay_with : (lines : List TextLine) → AllByRecursion (λ l. has_text l.1 ≡ true) lines → AllByRecursion Stays lines → NoneCloses lines
unfolding Stays
stay_with [] t s = tt
stay_with (l ∷ ls) t s = (s.0 t.0, stay_with ls t.1 s.1)

-- Log lines without a fault that have texts close no section.
pub log_stays : (tasks : List TaskValue) (lines : List TextLine) → AllByRecursion (λ l. has_text l.1 ≡ true) lines → IsFaultless (Breaks tasks) lines → NoneCloses lines
log_stays tasks lines t f = stay_with lines t (each_line (Breaks tasks) Stays (line_stays tasks) [] lines f)

-- ---- content lines have texts

passing : {A : Type 0} (p : A → Bool) (xs : List A) → AllByRecursion (λ x. p x ≡ true) (filter p xs)
passing p [] = tt
passing p (x ∷ xs) = by (p x) refl (passing p xs)
  where
    by : (b : Bool) → p x ≡ b → AllByRecursion (λ y. p y ≡ true) (filter p xs) → AllByRecursion (λ y. p y ≡ true) (filter p (x ∷ xs))
    by true e h = subst (AllByRecursion (λ y. p y ≡ true)) (sym (ap (λ b. cond b (x ∷ filter p xs) (filter p xs)) e)) (e, h)
    by false e h = subst (AllByRecursion (λ y. p y ≡ true)) (sym (ap (λ b. cond b (x ∷ filter p xs) (filter p xs)) e)) h

-- Each content line has a text.
pub lines_have_text : (n : ℕ) (text : List ℕ) → AllByRecursion (λ l. has_text l.1 ≡ true) (lines_from n text)
lines_have_text n text = passing {A = TextLine} (λ l. has_text l.1) (map (λ l. (l.0, content l.1)) (enumerate_from n (pieces text)))

-- ---- numbers play no part

-- Lines of the same texts spell the same log.
pub log_again : (tasks : List TaskValue) (lines others : List TextLine) → texts lines ≡ texts others → log_of tasks lines ≡ log_of tasks others
log_again tasks lines others e = fold_again (λ log text. option_map_or (with_line tasks log) (shape_of text) log) nothing lines others e

-- The rule of log lines reads texts alone.
pub log_reads : (tasks : List TaskValue) → ReadsTexts (Breaks tasks)
log_reads tasks before other [] kind e b =
    let many = length_again before other e in
    subst (λ X. X) (λ i. ClosesEarly log_kind.Form (length tasks + 1) (many i) kind) b
log_reads tasks before other (c ∷ cs) kind e b =
    let many = length_again before other e in
    let log = log_again tasks before other e in
    subst (λ X. X)
    (λ i. MatchOption (shape_of (c ∷ cs)) (kind ≡ log_kind.Form) (λ s. HasKind tasks (many i) (length (log i).entries) s kind)) b
