-- The seven rules of a legal log, each by the places at which it fails.
use Rattle.std.specs.Prelude.{ℕ, ◌<◌, ◌≤◌, ◌-◌, ◌*◌, Bool, true, false, not, ◌&&◌, ◌||◌, ◌==◌, nat_lt, List, [], ◌∷◌, length, take, slice_index, slice_index_or, slice_get, Option, Some, None, if◌then◌else◌}
use Rattle.std.specs.List.{list_any}
use Rattle.std.specs.Option.{option_map_or}
use Rattle.plural_core.specs.declared.end.End.{End}
use Rattle.plural_core.specs.declared.end.End.TheVariants as end
use Rattle.plural_map.specs.declared.outcome.Outcome.{Outcome}
use Rattle.plural_map.specs.declared.outcome.Outcome.TheVariants as outcome
use Rattle.plural_map.specs.Value.{TaskValue}
use Rattle.plural_reach.specs.Chains.{Before}
use Rattle.plural_serial.specs.declared.record_.Record.{Record}
use Rattle.plural_trace.specs.declared.entry.Entry.{Entry}

-- What stands past the last entry.
abbrev pub no_entry : Entry
no_entry = record {
  rec = record { t = 0; k = 0; «end» = end.Code0; instructions = 0; loads = 0; misses = 0; stores = 0 };
  core = 0;
  start = 0;
  end_at = 0;
}

-- The entry at a place.
abbrev pub entry_at : List Entry → ℕ → Entry
entry_at es i = slice_index_or es i no_entry

-- The record is of instance k of task t.
abbrev pub is_of : (t k : ℕ) → Record → Bool
is_of t k r = r.t == t && r.k == k

-- The record of instance k of task t, the first that there is.
abbrev pub record_for : (t k : ℕ) → List Record → Option Record
record_for t k [] = None
record_for t k (r ∷ rs) = if is_of t k r then Some r else record_for t k rs

-- The two ends are the same.
abbrev pub is_same_end : End → End → Bool
is_same_end end.Code0 end.Code0 = true
is_same_end end.Code1 end.Code1 = true
is_same_end (end.Trap cause pc) (end.Trap other at) = cause == other && pc == at
is_same_end end.Exhausted end.Exhausted = true
is_same_end e f = false

-- The two records are the same.
abbrev pub is_same_record : Record → Record → Bool
is_same_record r s =
    r.t == s.t && r.k == s.k && is_same_end r.«end» s.«end»
    && r.instructions == s.instructions && r.loads == s.loads && r.misses == s.misses && r.stores == s.stores

-- The record is the one that these hold of its instance.
abbrev pub is_recorded : List Record → Record → Bool
is_recorded records r = option_map_or (is_same_record r) (record_for r.t r.k records) false

-- One of the entries is of instance k of task t.
abbrev pub has_instance : (t k : ℕ) → List Entry → Bool
has_instance t k es = list_any (λ e. is_of t k e.rec) es

-- One of the records is of an instance that no entry is of.
abbrev pub lacks_instance : List Record → List Entry → Bool
lacks_instance records es = list_any (λ r. not (has_instance r.t r.k es)) records

-- 1: these records are those of the serial run. Entry i is of no instance that it runs, or its record isn't the serial
-- run's, or an earlier entry is of its instance; or i is the number of entries, and an instance of the serial run is
-- missing.
abbrev pub breaks_records : List Record → List Entry → (i : ℕ) → Bool
breaks_records records es i =
    let r = (entry_at es i).rec in
    if nat_lt i (length es)
    then not (is_recorded records r) || has_instance r.t r.k (take i es)
    else lacks_instance records es

-- The number is a ticket of the entry.
abbrev pub is_ticket : ℕ → Entry → Bool
is_ticket x e = (e.start == x) || (e.end_at == x)

-- The number is a ticket of one of the entries.
abbrev pub is_drawn : ℕ → List Entry → Bool
is_drawn x es = list_any (is_ticket x) es

-- 2: the start of entry i isn't below its end, the end isn't below twice the number of entries, or one of its tickets
-- is a ticket of an earlier entry.
abbrev pub breaks_tickets : List Entry → (i : ℕ) → Bool
breaks_tickets es i =
    let e = entry_at es i in
    not (nat_lt e.start e.end_at) || not (nat_lt e.end_at (2 * length es))
    || is_drawn e.start (take i es) || is_drawn e.end_at (take i es)

-- 3: some entry is of a task that comes before that of entry i by dependencies, and its end isn't below the start of
-- entry i.
pub record BreaksOrder (tasks : List TaskValue) (es : List Entry) (i : ℕ) : Type 0 where
  pub late : ℕ
  pub there : late < length es
  pub before : Before tasks (entry_at es late).rec.t (entry_at es i).rec.t
  pub ends : (entry_at es i).start ≤ (entry_at es late).end_at

-- The two intervals overlap: neither's end is below the other's start.
abbrev pub overlaps : Entry → Entry → Bool
overlaps e f = not (nat_lt e.end_at f.start) && not (nat_lt f.end_at e.start)

-- The interval of f overlaps one of those of its core.
abbrev pub is_busy : Entry → List Entry → Bool
is_busy f es = list_any (λ e. (e.core == f.core) && overlaps e f) es

-- 4: the core of entry i isn't below the number of cores, or its interval overlaps an earlier entry's of the same core.
abbrev pub breaks_cores : (cores : ℕ) → List Entry → (i : ℕ) → Bool
breaks_cores cores es i = not (nat_lt (entry_at es i).core cores) || is_busy (entry_at es i) (take i es)

-- 5: i is above 0, and the start of entry i - 1 isn't below that of entry i.
abbrev pub breaks_rise : List Entry → (i : ℕ) → Bool
breaks_rise es i = nat_lt 0 i && not (nat_lt (entry_at es (i - 1)).start (entry_at es i).start)

-- The two outcomes are the same.
abbrev pub is_same_outcome : Outcome → Outcome → Bool
is_same_outcome outcome.Ended0 outcome.Ended0 = true
is_same_outcome outcome.Ended1 outcome.Ended1 = true
is_same_outcome outcome.Skipped outcome.Skipped = true
is_same_outcome outcome.Failed outcome.Failed = true
is_same_outcome o p = false

-- The two are the same outcome, and there.
abbrev pub is_outcome : Option Outcome → Option Outcome → Bool
is_outcome (Some o) (Some p) = is_same_outcome o p
is_outcome o p = false

-- 6: the outcome of task i isn't the serial run's.
abbrev pub breaks_outcomes : (serial : List (Option Outcome)) → List Outcome → (i : ℕ) → Bool
breaks_outcomes serial outcomes i = not (is_outcome (slice_get outcomes i) (slice_index_or serial i None))

-- 7: word i of the last memory isn't the serial run's.
abbrev pub breaks_words : (serial last : List ℕ) → (i : ℕ) → Bool
breaks_words serial last i = not (slice_index last i == slice_index serial i)
