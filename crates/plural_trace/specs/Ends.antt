-- The latest end of a task's entries, plus one; 0 if it has none.
use Rattle.std.specs.Prelude.{ℕ, ◌≡◌, ◌<◌, ◌↔◌, zero, suc, ◌+◌, max, ◌==◌, Bool, if◌then◌else◌, List, [], ◌∷◌, length, slice_index}
use Rattle.plural_map.specs.Value.{TaskValue}
use Rattle.plural_trace.specs.declared.entry.Entry.{Entry}
use Rattle.plural_trace.specs.Rules.{entry_at, BreaksOrder}

-- The latest end, plus one, of the entries of task t; 0 if there is none.
abbrev pub latest_end : ℕ → List Entry → ℕ
latest_end t [] = 0
latest_end t (e ∷ es) = max (if e.rec.t == t then e.end_at + 1 else 0) (latest_end t es)

-- The greatest of these ends among the tasks below n that come before task u; 0 if there is none.
abbrev pub latest_before : (ℕ → ℕ → Bool) → (u : ℕ) → List ℕ → (n : ℕ) → ℕ
latest_before before u ends zero = 0
latest_before before u ends (suc n) = max (latest_before before u ends n) (if before n u then slice_index ends n else 0)

-- For each task, the greatest of the ends of the tasks that come before it.
abbrev pub AreLatestBefore : (ℕ → ℕ → Bool) → (ends bounds : List ℕ) → Type 0
AreLatestBefore before ends bounds = (u : ℕ) → u < length ends
    → slice_index bounds u ≡ latest_before before u ends (length ends)

-- An entry breaks the rule on the order of tasks exactly if it starts below the number of its task.
abbrev pub AreLeastStarts : List TaskValue → List Entry → (least : List ℕ) → Type 0
AreLeastStarts tasks es least = (i : ℕ) → i < length es
    → ((entry_at es i).start < slice_index least (entry_at es i).rec.t) ↔ BreaksOrder tasks es i
