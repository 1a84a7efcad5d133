-- A printed log is read again.
use Rattle.std.proofs.Common.{◌≡◌, ℕ, ◌+◌, ◌-◌, ◌<◌, ◌≤◌, true, false, Some, List, [], ◌∷◌, ◌++◌, length, refl, ap, sym, subst, ◌∙◌, arith, append_assoc}
use Rattle.std.specs.Prelude.{bytes_eq, codes, decimal, flat_map, IsTrue}
use Rattle.std.specs.List.{All, list_all}
use Rattle.std.proofs.lemmas.Bool.{le-leb, lt-leb, le-ltb}
use Rattle.std.proofs.lemmas.List.{append-nil, length_push, length-append}
use Rattle.std.proofs.lemmas.List.Elements.{All-head, All-tail}
use Rattle.plural_bytes.specs.Lines.{TextLine, pieces, content_from, content_lines}
use Rattle.plural_base.specs.Names.{is_name, name_of}
use Rattle.plural_bytes.specs.Hexadecimal.{hex_text}
use Rattle.plural_sections.specs.LineKinds.{HasNone}
use Rattle.plural_sections.proofs.Caps.{capped_back}
use Rattle.plural_bytes.proofs.Tokens.{is_token, AreTokens, all_tokens, joined, tokens_joined, line_next, decimal_token, hex_token, name_back, name_token}
use Rattle.plural_core.specs.declared.end.End.{End}
use Rattle.plural_core.specs.declared.end.End.TheVariants as ended
use Rattle.plural_image.proofs.RowRoundTrip.{word_back}
use Rattle.plural_map.specs.declared.outcome.Outcome.{Outcome}
use Rattle.plural_map.specs.declared.outcome.Outcome.TheVariants as outcome
use Rattle.plural_map.specs.Value.{TaskValue, MapValue}
use Rattle.plural_map.specs.Limits.{IsMap}
use Rattle.plural_map.specs.Lookup.{name_at}
use Rattle.plural_map.proofs.Lookups.{same_name, has_at, Differ, number_at, AreNamed, named_at}
use Rattle.plural_trace.specs.declared.entry.Entry.{Entry}
use Rattle.plural_log.specs.declared.line.EndShape.{EndShape}
use Rattle.plural_log.specs.declared.line.EndShape.TheVariants as shape
use Rattle.plural_log.specs.declared.line.LogLine.{LogLine}
use Rattle.plural_log.specs.declared.line.LogLine.TheVariants as line
use Rattle.plural_trace.specs.Logs.{LogValue}
use Rattle.plural_log.specs.Print.{task_text, task_texts, end_text, counts_text, times_text, entry_text, log_text}
use Rattle.plural_log.specs.Shape.{counts_of, times_of, shape, shape_of}
use Rattle.plural_log.specs.Spelled.{end_value, entry_value, nothing, log_of}
use Rattle.plural_log.specs.Faults.{is_large, is_no_end, HasKind}
use Rattle.plural_core.specs.Ends.{IsEnd}
use Rattle.plural_trace.specs.Logs.{IsEntry, IsLog}
use Rattle.plural_log.specs.Laws.{LogRoundTrip}
use Rattle.plural_log.proofs.Reading.{Reads, reads_nothing, reads_push, no_kind, closed_reads}

-- ---- one task line

outcome_tokens : Outcome → List (List ℕ)
outcome_tokens outcome.Ended0 = codes "ended" ∷ codes "0" ∷ []
outcome_tokens outcome.Ended1 = codes "ended" ∷ codes "1" ∷ []
outcome_tokens outcome.Skipped = codes "skipped" ∷ []
outcome_tokens outcome.Failed = codes "failed" ∷ []

outcome_all : (o : Outcome) → AreTokens (outcome_tokens o)
unfolding outcome_tokens
outcome_all outcome.Ended0 = (refl, (refl, tt))
outcome_all outcome.Ended1 = (refl, (refl, tt))
outcome_all outcome.Skipped = (refl, tt)
outcome_all outcome.Failed = (refl, tt)

task_joined : (t : TaskValue) (o : Outcome) → task_text t o ≡ joined (codes "task" ∷ t.name ∷ outcome_tokens o) ++ 10 ∷ []
unfolding outcome_tokens
task_joined t outcome.Ended0 = simp append_assoc refl
task_joined t outcome.Ended1 = simp append_assoc refl
task_joined t outcome.Skipped = simp append_assoc refl
task_joined t outcome.Failed = simp append_assoc refl

task_all : (t : TaskValue) (o : Outcome) → is_name t.name ≡ true → list_all is_token (codes "task" ∷ t.name ∷ outcome_tokens o) ≡ true
task_all t o h = all_tokens (codes "task" ∷ t.name ∷ outcome_tokens o) (refl, (name_token t.name h, outcome_all o))

task_shape : (t : TaskValue) (o : Outcome) → is_name t.name ≡ true → shape_of (joined (codes "task" ∷ t.name ∷ outcome_tokens o)) ≡ Some (line.Task t.name o)
unfolding outcome_tokens
task_shape t o h = ap shape (tokens_joined (codes "task") (t.name ∷ outcome_tokens o) (task_all t o h)) ∙ by o
  where
    by : (o : Outcome) → shape (codes "task" ∷ t.name ∷ outcome_tokens o) ≡ Some (line.Task t.name o)
    by outcome.Ended0 = rw (name_back t.name h) refl
    by outcome.Ended1 = rw (name_back t.name h) refl
    by outcome.Skipped = rw (name_back t.name h) refl
    by outcome.Failed = rw (name_back t.name h) refl

-- ---- one entry's line

end_tokens : End → List (List ℕ)
end_tokens ended.Code0 = codes "code" ∷ codes "0" ∷ []
end_tokens ended.Code1 = codes "code" ∷ codes "1" ∷ []
end_tokens (ended.Trap cause pc) = codes "trap" ∷ decimal cause ∷ codes "pc" ∷ hex_text 8 pc ∷ []
end_tokens ended.Exhausted = codes "spent" ∷ []

end_shape : End → EndShape
end_shape ended.Code0 = shape.Code0
end_shape ended.Code1 = shape.Code1
end_shape (ended.Trap cause pc) = shape.Trap cause pc
end_shape ended.Exhausted = shape.Spent

-- The tokens after the end.
abbrev rest_tokens : Entry → List (List ℕ)
rest_tokens e =
    codes "n" ∷ decimal e.rec.instructions ∷ codes "loads" ∷ decimal e.rec.loads ∷ codes "misses" ∷ decimal e.rec.misses ∷ codes "stores" ∷ decimal e.rec.stores
    ∷ codes "core" ∷ decimal e.core ∷ codes "from" ∷ decimal e.start ∷ codes "to" ∷ decimal e.end_at ∷ []

entry_joined : (tasks : List TaskValue) (e : Entry)
    → entry_text tasks e ≡ joined (codes "run" ∷ name_at tasks e.rec.t ∷ decimal e.rec.k ∷ (end_tokens e.rec.«end» ++ rest_tokens e)) ++ 10 ∷ []
unfolding end_tokens
entry_joined tasks e = by e.rec.«end»
  where
    by : (x : End) → codes "run " ++ (name_at tasks e.rec.t ++ (codes " " ++ (decimal e.rec.k ++ (codes " " ++ (end_text x ++ (counts_text e.rec ++ times_text e))))))
        ≡ joined (codes "run" ∷ name_at tasks e.rec.t ∷ decimal e.rec.k ∷ (end_tokens x ++ rest_tokens e)) ++ 10 ∷ []
    by ended.Code0 = simp append_assoc refl
    by ended.Code1 = simp append_assoc refl
    by (ended.Trap cause pc) = simp append_assoc refl
    by ended.Exhausted = simp append_assoc refl

counts_all : (tasks : ℕ) (e : Entry) → IsEntry tasks e → AreTokens (rest_tokens e)
counts_all tasks e h = (
  refl,
  (
    decimal_token e.rec.instructions h.instructions,
    (
      refl,
      (
        decimal_token e.rec.loads h.loads,
        (
          refl,
          (
            decimal_token e.rec.misses h.misses,
            (
              refl,
              (
                decimal_token e.rec.stores h.stores,
                (refl, (decimal_token e.core h.core, (refl, (decimal_token e.start h.start, (refl, (decimal_token e.end_at h.end_at, tt)))))),
              ),
            ),
          ),
        ),
      ),
    ),
  ),
)

end_all : (x : End) (ts : List (List ℕ)) → IsEnd x → AreTokens ts → AreTokens (end_tokens x ++ ts)
unfolding end_tokens
end_all ended.Code0 ts h k = (refl, (refl, k))
end_all ended.Code1 ts h k = (refl, (refl, k))
end_all (ended.Trap cause pc) ts h k = (refl, (decimal_token cause (let a = h.1 in omega arith), (refl, (hex_token pc, k))))
end_all ended.Exhausted ts h k = (refl, k)

entry_all : (tasks : List TaskValue) (e : Entry) → AreNamed tasks → IsEntry (length tasks) e
    → list_all is_token (codes "run" ∷ name_at tasks e.rec.t ∷ decimal e.rec.k ∷ (end_tokens e.rec.«end» ++ rest_tokens e)) ≡ true
entry_all tasks e n h =
    all_tokens (codes "run" ∷ name_at tasks e.rec.t ∷ decimal e.rec.k ∷ (end_tokens e.rec.«end» ++ rest_tokens e))
    (refl, (name_token (name_at tasks e.rec.t) (named_at tasks e.rec.t n h.t), (decimal_token e.rec.k h.k, end_all e.rec.«end» (rest_tokens e) h.ended (counts_all (length tasks) e h))))

-- the line of an entry
abbrev run_of : List TaskValue → Entry → LogLine
run_of tasks e =
    line.Run (name_at tasks e.rec.t) e.rec.k (end_shape e.rec.«end»)
    (record { instructions = e.rec.instructions; loads = e.rec.loads; misses = e.rec.misses; stores = e.rec.stores })
    (record { core = e.core; start = e.start; end_at = e.end_at })

entry_shape : (tasks : List TaskValue) (e : Entry) → AreNamed tasks → IsEntry (length tasks) e
    → shape_of (joined (codes "run" ∷ name_at tasks e.rec.t ∷ decimal e.rec.k ∷ (end_tokens e.rec.«end» ++ rest_tokens e))) ≡ Some (run_of tasks e)
unfolding end_tokens end_shape
entry_shape tasks e n h =
    ap shape (tokens_joined (codes "run") (name_at tasks e.rec.t ∷ decimal e.rec.k ∷ (end_tokens e.rec.«end» ++ rest_tokens e)) (entry_all tasks e n h)) ∙ by e.rec.«end» h.ended
  where
    named : name_of (name_at tasks e.rec.t) ≡ Some (name_at tasks e.rec.t)
    named = name_back (name_at tasks e.rec.t) (named_at tasks e.rec.t n h.t)

    counts : counts_of (rest_tokens e) ≡ Some (record { instructions = e.rec.instructions; loads = e.rec.loads; misses = e.rec.misses; stores = e.rec.stores }, codes "core" ∷ decimal e.core ∷ codes "from" ∷ decimal e.start ∷ codes "to" ∷ decimal e.end_at ∷ [])
    counts = rw (capped_back e.rec.instructions h.instructions, capped_back e.rec.loads h.loads, capped_back e.rec.misses h.misses, capped_back e.rec.stores h.stores) refl

    times : times_of (codes "core" ∷ decimal e.core ∷ codes "from" ∷ decimal e.start ∷ codes "to" ∷ decimal e.end_at ∷ []) ≡ Some (record { core = e.core; start = e.start; end_at = e.end_at })
    times = rw (capped_back e.core h.core, capped_back e.start h.start, capped_back e.end_at h.end_at) refl

    by : (x : End) → IsEnd x → shape (codes "run" ∷ name_at tasks e.rec.t ∷ decimal e.rec.k ∷ (end_tokens x ++ rest_tokens e))
        ≡ Some (line.Run (name_at tasks e.rec.t) e.rec.k (end_shape x)
        (record { instructions = e.rec.instructions; loads = e.rec.loads; misses = e.rec.misses; stores = e.rec.stores })
        (record { core = e.core; start = e.start; end_at = e.end_at }))
    by ended.Code0 g = rw (named, capped_back e.rec.k h.k, counts, times) refl
    by ended.Code1 g = rw (named, capped_back e.rec.k h.k, counts, times) refl
    by (ended.Trap cause pc) g = rw (named, capped_back e.rec.k h.k, capped_back cause (let a = g.1 in omega arith), word_back pc g.2, counts, times) refl
    by ended.Exhausted g = rw (named, capped_back e.rec.k h.k, counts, times) refl

-- ---- the entry that its line spells

end_back : (x : End) → end_value (end_shape x) ≡ x
unfolding end_shape
end_back ended.Code0 = refl
end_back ended.Code1 = refl
end_back (ended.Trap cause pc) = refl
end_back ended.Exhausted = refl

end_fine : (x : End) → IsEnd x → is_no_end (end_shape x) ≡ false
unfolding end_shape
end_fine ended.Code0 h = refl
end_fine ended.Code1 h = refl
end_fine (ended.Trap cause pc) h = rw (le-leb 1 cause h.0, le-leb cause 9 h.1) refl
end_fine ended.Exhausted h = refl

-- The entry of its line.
entry_is : (tasks : List TaskValue) (e : Entry) → Differ tasks → e.rec.t < length tasks
    → entry_value tasks (name_at tasks e.rec.t) e.rec.k (end_shape e.rec.«end») (record { instructions = e.rec.instructions; loads = e.rec.loads; misses = e.rec.misses; stores = e.rec.stores })
    (record { core = e.core; start = e.start; end_at = e.end_at }) ≡ e
entry_is tasks e d l = λ i. record e { rec = record e.rec { t = number_at tasks e.rec.t d l i; «end» = end_back e.rec.«end» i } }

small : (n : ℕ) → n < 4294967296 → is_large n ≡ false
small n h = le-ltb 4294967295 n (omega arith)

run_fine : (tasks : List TaskValue) (n entries : ℕ) (e : Entry) → IsEntry (length tasks) e → length tasks < n → entries < 65536 → HasNone (HasKind tasks n entries (run_of tasks e))
run_fine tasks n entries e h l few =
    no_kind tasks n entries (run_of tasks e) (lt-leb n (length tasks) l)
    (rw (small e.rec.k h.k, end_fine e.rec.«end» h.ended, small e.rec.instructions h.instructions, small e.rec.loads h.loads, small e.rec.misses h.misses, small e.rec.stores h.stores, small e.core h.core, small e.start h.start, small e.end_at h.end_at) refl)
    (rw (has_at tasks e.rec.t h.t) refl) (lt-leb 65536 entries few)

-- ---- the entries, from one on

abbrev with_entries : LogValue → List Entry → LogValue
with_entries log es = record log { entries = log.entries ++ es }

entries_read : (tasks : List TaskValue) (es : List Entry) (n : ℕ) (before : List TextLine) (log : LogValue) → AreNamed tasks → Differ tasks → All (IsEntry (length tasks)) es → Reads tasks before log
    → length tasks < length before → length log.entries + length es ≤ 65536
    → Reads tasks (before ++ content_from n (pieces (flat_map (entry_text tasks) es))) (with_entries log es)
entries_read tasks [] n before log named differ h r l few = rw (append-nil before, append-nil log.entries) r
entries_read tasks (e ∷ es) n before log named differ h r l few =
    let own = All-head (IsEntry (length tasks)) e es h in
    let ts = name_at tasks e.rec.t ∷ decimal e.rec.k ∷ (end_tokens e.rec.«end» ++ rest_tokens e) in
    let text = joined (codes "run" ∷ ts) in
    let rest = flat_map (entry_text tasks) es in
    let next : content_from n (pieces (entry_text tasks e ++ rest)) ≡ (n, text) ∷ content_from (n + 1) (pieces rest) =
    ap (λ t. content_from n (pieces (t ++ rest))) (entry_joined tasks e) ∙ ap (λ t. content_from n (pieces t)) (append_assoc text (10 ∷ []) rest) ∙ line_next n (codes "run") ts rest (entry_all tasks e named own) in
    let one = reads_push tasks before (n, text) log (run_of tasks e) r (entry_shape tasks e named own) (run_fine tasks (length before) (length log.entries) e own l (omega arith)) in
    let same = ap (λ x. with_entries log (x ∷ [])) (entry_is tasks e differ own.t) in
    let kept : Reads tasks (before ++ (n, text) ∷ []) (with_entries log (e ∷ [])) = subst (λ (x : LogValue). Reads tasks (before ++ (n, text) ∷ []) x) same one in
    let all = entries_read tasks es (n + 1) (before ++ (n, text) ∷ []) (with_entries log (e ∷ [])) named differ (All-tail (IsEntry (length tasks)) e es h) kept (omega (arith, length_push before (n, text))) (omega (arith, length_push log.entries e)) in
    let lines : before ++ content_from n (pieces (entry_text tasks e ++ rest)) ≡ (before ++ (n, text) ∷ []) ++ content_from (n + 1) (pieces rest) = ap (λ x. before ++ x) next ∙ sym (append_assoc before ((n, text) ∷ []) (content_from (n + 1) (pieces rest))) in
    rw (lines, ← append_assoc log.entries (e ∷ []) es) all

-- ---- the task lines, from one on

abbrev with_outcomes : LogValue → List Outcome → LogValue
with_outcomes log os = record log { outcomes = log.outcomes ++ os }

-- The task after some is the one at their number.
name_after : (pre : List TaskValue) (t : TaskValue) (ts : List TaskValue) → name_at (pre ++ t ∷ ts) (length pre) ≡ t.name
name_after [] t ts = refl
name_after (x ∷ xs) t ts = name_after xs t ts

task_fine : (pre : List TaskValue) (t : TaskValue) (ts : List TaskValue) (o : Outcome) (n entries : ℕ) → n ≡ length pre + 1 → HasNone (HasKind (pre ++ t ∷ ts) n entries (line.Task t.name o))
task_fine pre t ts o n entries e =
    let high : n ≤ length (pre ++ t ∷ ts) = omega (arith, e, length-append pre (t ∷ ts)) in
    let place : n - 1 ≡ length pre = omega arith in
    let same : bytes_eq (name_at (pre ++ t ∷ ts) (n - 1)) t.name ≡ true = ap (λ k. bytes_eq (name_at (pre ++ t ∷ ts) k) t.name) place ∙ ap (λ x. bytes_eq x t.name) (name_after pre t ts) ∙ same_name t.name in
    no_kind (pre ++ t ∷ ts) n entries (line.Task t.name o) (rw (le-leb 1 n (omega arith), le-leb n (length (pre ++ t ∷ ts)) high) refl) refl (rw same refl) refl

-- What follows the task lines, for whatever lines stand before.
abbrev Follows : List TaskValue → LogValue → List ℕ → LogValue → ℕ → Type 0
Follows tasks log rest last count = (n : ℕ) (before : List TextLine) → Reads tasks before log → length before ≡ count → Reads tasks (before ++ content_from n (pieces rest)) last

tasks_read : (pre ts : List TaskValue) (os : List Outcome) (n : ℕ) (before : List TextLine) (log last : LogValue) (rest : List ℕ) → AreNamed ts → length os ≡ length ts → Reads (pre ++ ts) before log
    → length before ≡ length pre + 1 → Follows (pre ++ ts) (with_outcomes log os) rest last (length pre + length ts + 1)
    → Reads (pre ++ ts) (before ++ content_from n (pieces (task_texts ts os ++ rest))) last
tasks_read pre [] [] n before log last rest named e r l k = k n before (rw (append-nil log.outcomes) r) (omega arith)
tasks_read pre [] (o ∷ os) n before log last rest named e r l k = absurd (omega arith)
tasks_read pre (t ∷ ts) [] n before log last rest named e r l k = absurd (omega arith)
tasks_read pre (t ∷ ts) (o ∷ os) n before log last rest named e r l k =
    let own : is_name t.name ≡ true = All-head (λ (t : TaskValue). IsTrue (is_name t.name)) t ts named in
    let text = joined (codes "task" ∷ t.name ∷ outcome_tokens o) in
    let more = task_texts ts os ++ rest in
    let whole : task_texts (t ∷ ts) (o ∷ os) ++ rest ≡ text ++ 10 ∷ more =
    append_assoc (task_text t o) (task_texts ts os) rest ∙ ap (λ x. x ++ more) (task_joined t o) ∙ append_assoc text (10 ∷ []) more in
    let next : content_from n (pieces (task_texts (t ∷ ts) (o ∷ os) ++ rest)) ≡ (n, text) ∷ content_from (n + 1) (pieces more) =
    ap (λ x. content_from n (pieces x)) whole ∙ line_next n (codes "task") (t.name ∷ outcome_tokens o) more (task_all t o own) in
    let one = reads_push (pre ++ t ∷ ts) before (n, text) log (line.Task t.name o) r (task_shape t o own) (task_fine pre t ts o (length before) (length log.entries) l) in
    let lines : before ++ content_from n (pieces (task_texts (t ∷ ts) (o ∷ os) ++ rest)) ≡ (before ++ (n, text) ∷ []) ++ content_from (n + 1) (pieces more) = ap (λ x. before ++ x) next ∙ sym (append_assoc before ((n, text) ∷ []) (content_from (n + 1) (pieces more))) in
    let shift : (pre ++ t ∷ []) ++ ts ≡ pre ++ t ∷ ts = append_assoc pre (t ∷ []) ts in
    let moved : Reads ((pre ++ t ∷ []) ++ ts) (before ++ (n, text) ∷ []) (with_outcomes log (o ∷ [])) = rw shift one in
    let later : Follows ((pre ++ t ∷ []) ++ ts) (with_outcomes (with_outcomes log (o ∷ [])) os) rest last (length (pre ++ t ∷ []) + length ts + 1) =
    rw (shift, append_assoc log.outcomes (o ∷ []) os) (λ m b x y. k m b x (omega (arith, length_push pre t))) in
    let all = tasks_read (pre ++ t ∷ []) ts os (n + 1) (before ++ (n, text) ∷ []) (with_outcomes log (o ∷ [])) last rest (All-tail (λ (t : TaskValue). IsTrue (is_name t.name)) t ts named) (omega arith) moved
    (omega (arith, length_push before (n, text), length_push pre t)) later in
    rw lines (rw shift at all)

-- ---- the whole log

first_all : (cores : ℕ) → cores ≤ 64 → list_all is_token (codes "log" ∷ codes "1" ∷ codes "cores" ∷ decimal cores ∷ []) ≡ true
first_all cores h = all_tokens (codes "log" ∷ codes "1" ∷ codes "cores" ∷ decimal cores ∷ []) (refl, (refl, (refl, (decimal_token cores (omega arith), tt))))

first_shape : (cores : ℕ) → cores ≤ 64 → shape_of (joined (codes "log" ∷ codes "1" ∷ codes "cores" ∷ decimal cores ∷ [])) ≡ Some (line.First cores)
first_shape cores h =
    ap shape (tokens_joined (codes "log") (codes "1" ∷ codes "cores" ∷ decimal cores ∷ []) (first_all cores h)) ∙ rw (capped_back cores (omega arith)) refl

first_fine : (tasks : List TaskValue) (cores : ℕ) → 1 ≤ cores → cores ≤ 64 → HasNone (HasKind tasks 0 0 (line.First cores))
first_fine tasks cores a b = no_kind tasks 0 0 (line.First cores) refl (rw (le-leb 1 cores a, le-leb cores 64 b) refl) refl refl

whole_read : (m : MapValue) (log : LogValue) → IsMap m → AreNamed m.tasks → IsLog m log → Reads m.tasks (content_lines (log_text m log)) log
whole_read m log limits named h =
    let tasks = m.tasks in
    let text = joined (codes "log" ∷ codes "1" ∷ codes "cores" ∷ decimal log.cores ∷ []) in
    let entries = flat_map (entry_text tasks) log.entries in
    let rest = task_texts tasks log.outcomes ++ entries in
    let whole : log_text m log ≡ text ++ 10 ∷ rest = simp append_assoc refl in
    let next : content_lines (log_text m log) ≡ (1, text) ∷ content_from 2 (pieces rest) =
    ap (λ x. content_from 1 (pieces x)) whole ∙ line_next 1 (codes "log") (codes "1" ∷ codes "cores" ∷ decimal log.cores ∷ []) rest (first_all log.cores h.cores_high) in
    let one = reads_push tasks [] (1, text) nothing (line.First log.cores) (reads_nothing tasks) (first_shape log.cores h.cores_high) (first_fine tasks log.cores h.cores_low h.cores_high) in
    let last : Follows tasks (record { cores = log.cores; outcomes = log.outcomes; entries = [] }) entries log (0 + length tasks + 1) =
    (λ n before r l. entries_read tasks log.entries n before (record { cores = log.cores; outcomes = log.outcomes; entries = [] }) named limits.names_differ h.entries r (omega arith) (omega (arith, h.few))) in
    rw next (tasks_read [] tasks log.outcomes 2 ((1, text) ∷ []) (record { cores = log.cores; outcomes = []; entries = [] }) log entries named h.one_each one (omega arith) last)

-- Lines that spell a log with a core are some.
some_lines : (tasks : List TaskValue) (lines : List TextLine) (log : LogValue) → log ≡ log_of tasks lines → 1 ≤ log.cores → 0 < length lines
some_lines tasks [] log e h = absurd (let z : log.cores ≡ 0 = ap (λ (l : LogValue). l.cores) e in let f : ⊥ = omega arith in f)
some_lines tasks (x ∷ xs) log e h = omega arith

-- Lines that spell one outcome for each task are more than the tasks.
many_lines : (tasks : List TaskValue) (lines : List TextLine) (log : LogValue) → Reads tasks lines log → 1 ≤ log.cores → length log.outcomes ≡ length tasks → length tasks < length lines
many_lines tasks lines log r h e =
    let some = some_lines tasks lines log r.known.spelled h in
    let o = r.counted.outcomes in
    omega arith

-- Reading a printed log gives the log.
pub log_round_trip : LogRoundTrip
log_round_trip m log end limits named h =
    let r = whole_read m log limits named h in
    (closed_reads m.tasks (content_lines (log_text m log)) end log r (many_lines m.tasks (content_lines (log_text m log)) log r h.cores_low h.one_each), sym r.known.spelled)
