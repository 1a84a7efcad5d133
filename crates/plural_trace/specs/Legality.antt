-- The facts on the entries of a legal log. (This project's own.)
use Rattle.std.specs.Prelude.{ℕ, ◌≡◌, ◌≢◌, ◌⊎◌, ◌<◌, ◌*◌, List, length, Some}
use Rattle.std.specs.List.{All, AllPairs, Any}
use Rattle.plural_map.specs.Value.{TaskValue}
use Rattle.plural_reach.specs.Chains.{Before}
use Rattle.plural_serial.specs.declared.record_.Record.{Record}
use Rattle.plural_trace.specs.declared.entry.Entry.{Entry}
use Rattle.plural_trace.specs.Rules.{record_for}

-- The two entries are of different instances.
abbrev pub IsOther : Entry → Entry → Type 0
IsOther e f = e.rec.t ≡ f.rec.t → e.rec.k ≡ f.rec.k → ⊥

-- One of the entries is of the record's instance.
abbrev pub HasEntry : List Entry → Record → Type 0
HasEntry es r = Any (λ e. (e.rec.t ≡ r.t) × (e.rec.k ≡ r.k)) es

-- 1: these records are those of the serial run. The entries are of their instances, of each once, and each has the
-- record of its instance.
pub record HasRecords (records : List Record) (es : List Entry) : Type 0 where
  pub recorded : All (λ e. record_for e.rec.t e.rec.k records ≡ Some e.rec) es
  pub once : AllPairs IsOther es
  pub whole : All (HasEntry es) records

-- The two entries have no ticket in common.
pub record OtherTickets (e f : Entry) : Type 0 where
  pub starts : e.start ≢ f.start
  pub start_end : e.start ≢ f.end_at
  pub end_start : e.end_at ≢ f.start
  pub ends : e.end_at ≢ f.end_at

-- 2: each start is below its end, each end below twice the number of entries, and all tickets differ.
pub record HasTickets (es : List Entry) : Type 0 where
  pub intervals : All (λ e. (e.start < e.end_at) × (e.end_at < 2 * length es)) es
  pub differ : AllPairs OtherTickets es

-- 3: if a task comes before another by dependencies, each entry of the one ends before each of the other starts.
abbrev pub KeepsOrder : List TaskValue → List Entry → Type 0
KeepsOrder tasks es = All (λ e. All (λ f. Before tasks e.rec.t f.rec.t → e.end_at < f.start) es) es

-- One interval ends before the other starts.
abbrev pub Apart : Entry → Entry → Type 0
Apart e f = (e.end_at < f.start) ⊎ (f.end_at < e.start)

-- 4: each core is below the number of cores, and of two entries of one core one ends before the other starts.
pub record HasCores (cores : ℕ) (es : List Entry) : Type 0 where
  pub own : All (λ e. e.core < cores) es
  pub apart : AllPairs (λ e f. e.core ≡ f.core → Apart e f) es

-- 5: the starts rise along the list.
abbrev pub Rises : List Entry → Type 0
Rises es = AllPairs (λ e f. e.start < f.start) es
