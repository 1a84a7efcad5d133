-- How long a printed output is at most.
use Rattle.std.proofs.Common.{◌≡◌, ℕ, zero, suc, ◌+◌, ◌*◌, ◌/◌, ◌%◌, ◌<◌, ◌≤◌, Bool, true, false, leb, ◌&&◌, List, [], ◌∷◌, ◌++◌, length, take, drop, refl, arith}
use Rattle.std.specs.Prelude.{◌==◌, codes, decimal, flat_map, IsTrue}
use Rattle.std.specs.List.{All, list_all, range_with_len}
use Rattle.std.proofs.lemmas.Bool.{and_parts, leb-true}
use Rattle.std.proofs.lemmas.Fmt.{length-decimal-le}
use Rattle.std.proofs.lemmas.List.{length-append, length-take}
use Rattle.std.proofs.lemmas.List.Elements.{All-head, All-tail}
use Rattle.std.proofs.lemmas.List.FromFn.{length-range_with_len}
use Rattle.plural_base.specs.Names.{is_name, begins_name, continues_name}
use Rattle.plural_bytes.specs.Hexadecimal.{hex_digit, hex_text}
use Rattle.plural_image.specs.Print.{row_text, row_lines, image_text}
use Rattle.plural_core.specs.Ends.{IsEnd}
use Rattle.plural_core.specs.declared.end.End.{End}
use Rattle.plural_core.specs.declared.end.End.TheVariants as ended
use Rattle.plural_map.specs.declared.outcome.Outcome.{Outcome}
use Rattle.plural_map.specs.declared.outcome.Outcome.TheVariants as outcome
use Rattle.plural_map.specs.Value.{TaskValue, MapValue}
use Rattle.plural_map.specs.Limits.{IsMap}
use Rattle.plural_map.specs.Lookup.{name_at}
use Rattle.plural_map.proofs.Lookups.{AreNamed, named_at}
use Rattle.plural_serial.specs.Program.{IsMemory}
use Rattle.plural_trace.specs.declared.entry.Entry.{Entry}
use Rattle.plural_trace.specs.Logs.{LogValue, IsEntry, IsLog}
use Rattle.plural_log.specs.Print.{outcome_text, task_text, task_texts, end_text, counts_text, times_text, entry_text, log_text}
use Rattle.plural_output.specs.Text.{output_text}

-- Two texts in a row are at most as long as both limits together.
both : (s t : List ℕ) (a b : ℕ) → length s ≤ a → length t ≤ b → length (s ++ t) ≤ a + b
both s t a b h k = omega (arith, h, k, length-append s t)

-- ---- numbers, words and names

number : (n : ℕ) → n < 4294967296 → length (decimal n) ≤ 10
number n h = length-decimal-le 10 n (omega arith) (omega (arith, h)) (omega (arith, h))

hex : (k n : ℕ) → length (hex_text k n) ≤ k
hex zero n = omega arith
hex (suc k) n = omega (arith, hex k (n / 16), length-append (hex_text k (n / 16)) (hex_digit (n % 16) ∷ []))

name : (text : List ℕ) → is_name text ≡ true → length text ≤ 24
name [] h = omega arith
name (c ∷ cs) h =
    let short = leb (length cs) 23 in
    let parts = and_parts (short && begins_name c) (list_all continues_name cs) h in
    let p = leb-true (length cs) 23 (and_parts short (begins_name c) parts.0).0 in
    omega (arith, p)

-- ---- a log

outcome_length : (o : Outcome) → length (outcome_text o) ≤ 7
outcome_length outcome.Ended0 = omega arith
outcome_length outcome.Ended1 = omega arith
outcome_length outcome.Skipped = omega arith
outcome_length outcome.Failed = omega arith

task_length : (t : TaskValue) (o : Outcome) → is_name t.name ≡ true → length (task_text t o) ≤ 38
task_length t o h = both (codes "task ") _ 5 33 (omega arith) (both t.name _ 24 9 (name t.name h) (both (codes " ") _ 1 8 (omega arith) (both (outcome_text o) (codes "\n") 7 1 (outcome_length o) (omega arith))))

tasks_length : (ts : List TaskValue) (os : List Outcome) → AreNamed ts → length (task_texts ts os) ≤ 38 * length ts
tasks_length [] os h = omega arith
tasks_length (t ∷ ts) [] h = omega arith
tasks_length (t ∷ ts) (o ∷ os) h =
    let one = task_length t o (All-head (λ (t : TaskValue). IsTrue (is_name t.name)) t ts h) in
    let more = tasks_length ts os (All-tail (λ (t : TaskValue). IsTrue (is_name t.name)) t ts h) in
    omega (arith, one, more, length-append (task_text t o) (task_texts ts os))

end_length : (e : End) → IsEnd e → length (end_text e) ≤ 27
end_length ended.Code0 h = omega arith
end_length ended.Code1 h = omega arith
end_length (ended.Trap cause pc) h = both (codes "trap ") _ 5 22 (omega arith) (both (decimal cause) _ 10 12 (number cause (let a = h.1 in omega (arith, a))) (both (codes " pc ") (hex_text 8 pc) 4 8 (omega arith) (hex 8 pc)))
end_length ended.Exhausted h = omega arith

counts_length : (tasks : ℕ) (e : Entry) → IsEntry tasks e → length (counts_text e.rec) ≤ 66
counts_length tasks e h =
    both (codes " n ") _ 3 63 (omega arith) (both (decimal e.rec.instructions) _ 10 53 (number e.rec.instructions h.instructions)
    (both (codes " loads ") _ 7 46 (omega arith) (both (decimal e.rec.loads) _ 10 36 (number e.rec.loads h.loads)
    (both (codes " misses ") _ 8 28 (omega arith) (both (decimal e.rec.misses) _ 10 18 (number e.rec.misses h.misses)
    (both (codes " stores ") _ 8 10 (omega arith) (number e.rec.stores h.stores)))))))

times_length : (tasks : ℕ) (e : Entry) → IsEntry tasks e → length (times_text e) ≤ 47
times_length tasks e h =
    both (codes " core ") _ 6 41 (omega arith) (both (decimal e.core) _ 10 31 (number e.core h.core)
    (both (codes " from ") _ 6 25 (omega arith) (both (decimal e.start) _ 10 15 (number e.start h.start)
    (both (codes " to ") _ 4 11 (omega arith) (both (decimal e.end_at) (codes "\n") 10 1 (number e.end_at h.end_at) (omega arith))))))

entry_length : (tasks : List TaskValue) (e : Entry) → AreNamed tasks → IsEntry (length tasks) e → length (entry_text tasks e) ≤ 180
entry_length tasks e n h =
    both (codes "run ") _ 4 176 (omega arith) (both (name_at tasks e.rec.t) _ 24 152 (name (name_at tasks e.rec.t) (named_at tasks e.rec.t n h.t))
    (both (codes " ") _ 1 151 (omega arith) (both (decimal e.rec.k) _ 10 141 (number e.rec.k h.k)
    (both (codes " ") _ 1 140 (omega arith) (both (end_text e.rec.«end») _ 27 113 (end_length e.rec.«end» h.ended)
    (both (counts_text e.rec) (times_text e) 66 47 (counts_length (length tasks) e h) (times_length (length tasks) e h)))))))

entries_length : (tasks : List TaskValue) (es : List Entry) → AreNamed tasks → All (IsEntry (length tasks)) es → length (flat_map (entry_text tasks) es) ≤ 180 * length es
entries_length tasks [] n h = omega arith
entries_length tasks (e ∷ es) n h =
    let one = entry_length tasks e n (All-head (IsEntry (length tasks)) e es h) in
    let more = entries_length tasks es n (All-tail (IsEntry (length tasks)) e es h) in
    omega (arith, one, more, length-append (entry_text tasks e) (flat_map (entry_text tasks) es))

log_length : (m : MapValue) (log : LogValue) → IsMap m → AreNamed m.tasks → IsLog m log → length (log_text m log) ≤ 11806231
log_length m log limits named h =
    let head = codes "log 1 cores " ++ (decimal log.cores ++ codes "\n") in
    let tasks = task_texts m.tasks log.outcomes in
    let runs = flat_map (entry_text m.tasks) log.entries in
    let first : length head ≤ 23 =
    both (codes "log 1 cores ") (decimal log.cores ++ codes "\n") 12 11 (omega arith) (both (decimal log.cores) (codes "\n") 10 1 (number log.cores (omega (arith, h.cores_high))) (omega arith)) in
    let task_part : length tasks ≤ 9728 = omega (arith, tasks_length m.tasks log.outcomes named, limits.few_tasks) in
    let run_part : length runs ≤ 11796480 = omega (arith, entries_length m.tasks log.entries named h.entries, h.few) in
    both head (tasks ++ runs) 23 11806208 first (both tasks runs 9728 11796480 task_part run_part)

-- ---- an image

words_length : (ws : List ℕ) → length (flat_map (λ w. 32 ∷ hex_text 8 w) ws) ≤ 9 * length ws
words_length [] = omega arith
words_length (w ∷ ws) = omega (arith, hex 8 w, words_length ws, length-append (32 ∷ hex_text 8 w) (flat_map (λ w. 32 ∷ hex_text 8 w) ws))

row_length : (a : ℕ) (ws : List ℕ) → length ws ≤ 8 → length (row_text a ws ++ 10 ∷ []) ≤ 82
row_length a ws h =
    both (row_text a ws) (10 ∷ []) 81 1 (both (hex_text 8 a ++ 58 ∷ []) _ 9 72 (both (hex_text 8 a) (58 ∷ []) 8 1 (hex 8 a) (omega arith)) (omega (arith, h, words_length ws))) (omega arith)

row_lines_length : (a : ℕ) (ws : List ℕ) → length ws ≤ 8 → length (row_lines a ws) ≤ 82
row_lines_length a ws h = by (list_all (λ w. w == 0) ws) refl
  where
    by : (b : Bool) → list_all (λ w. w == 0) ws ≡ b → length (row_lines a ws) ≤ 82
    by true e = rw e (omega arith)
    by false e = rw e (row_length a ws h)

rows_length : (words rs : List ℕ) → length (flat_map (λ r. row_lines (8 * r) (take 8 (drop (8 * r) words))) rs) ≤ 82 * length rs
rows_length words [] = omega arith
rows_length words (r ∷ rs) =
    let ws = take 8 (drop (8 * r) words) in
    let few : length ws ≤ 8 = omega (arith, length-take 8 (drop (8 * r) words)) in
    omega (arith, row_lines_length (8 * r) ws few, rows_length words rs, length-append (row_lines (8 * r) ws) (flat_map (λ r. row_lines (8 * r) (take 8 (drop (8 * r) words))) rs))

-- An image's text has at most 82 bytes for each row.
pub image_length : (words : List ℕ) → length (image_text words) ≤ 82 * (length words / 8)
image_length words = omega (arith, rows_length words (range_with_len 0 (length words / 8)), length-range_with_len 0 (length words / 8))

-- ---- an output

-- A printed output is much shorter than what an input of `verify` may have beside a bundle.
pub output_length : (m : MapValue) (log : LogValue) (words : List ℕ) → IsMap m → AreNamed m.tasks → IsLog m log → IsMemory m words → length (output_text m log words) ≤ 22554149
output_length m log words limits named fits memory =
    let rows : length (image_text words) ≤ 10747904 = omega (arith, image_length words, memory.all, limits.words_high) in
    both (log_text m log) _ 11806231 10747918 (log_length m log limits named fits)
    (both (codes "[image]\n") _ 8 10747910 (omega arith) (both (image_text words) (codes "[end]\n") 10747904 6 rows (omega arith)))
