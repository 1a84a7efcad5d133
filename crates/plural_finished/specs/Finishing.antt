-- What a finished machine has, by its closed words. (This project's own.)
use Rattle.std.specs.Prelude.{ℕ, ◌≡◌, ◌<◌, ◌≤◌, List, length, take, slice_get, Some}
use Rattle.std.specs.List.{All}
use Rattle.plural_map.specs.declared.outcome.Outcome.{Outcome}
use Rattle.plural_serial.specs.Program.{IsProgram}
use Rattle.plural_trace.specs.declared.entry.Entry.{Entry}
use Rattle.plural_trace.specs.RecordWords.{RecordWords, entry_of}
use Rattle.plural_trace.specs.Legality.{Rises}
use Rattle.plural_trace.specs.Logs.{LogValue}
use Rattle.plural_order.specs.Sums.{sum_over, sign}
use Rattle.plural_order.specs.ProgramWorld.{IsOpening}
use Rattle.plural_counters.specs.Duties.{one_if_pair}
use Rattle.plural_rule.specs.Opening.{Opening, IsInstance, task_count, outcome_of}
use Rattle.plural_rule.specs.Content.{Content, content}
use Rattle.plural_rule.specs.Last.{HasTold}
use Rattle.plural_words.specs.Closing.{ClosedSeen, IsClosed}

-- What closed words say.
abbrev pub says : ClosedSeen → Content
says c = content c.opening.program c.words

-- The words of a whole run: they were opened for 1 to 64 cores over a program whose map is within its limits and has
-- no clash, and an image of its length; and the root has told every task.
pub record IsClosedRun (c : ClosedSeen) : Type 0 where
  pub program : IsProgram c.opening.program
  pub opening : IsOpening c.opening.program c.opening.image
  pub some_core : 1 ≤ c.opening.cores
  pub few_cores : c.opening.cores ≤ 64
  pub closed : IsClosed c
  pub told : HasTold c.opening c.root

-- Instance (t, k) is done.
pub record IsDone (c : ClosedSeen) (t k : ℕ) : Type 0 where
  pub inst : IsInstance c.opening.program t k
  pub done : 0 < (says c).done t k

-- A field of the record of instance (t, k), by its place.
abbrev pub word_of : ClosedSeen → (t k f : ℕ) → ℕ
word_of c t k f = (says c).field t k f

-- The record words of instance (t, k).
abbrev pub words_in : ClosedSeen → (t k : ℕ) → RecordWords
words_in c t k = record {
  «end» = word_of c t k 0;
  instructions = word_of c t k 1;
  loads = word_of c t k 2;
  misses = word_of c t k 3;
  stores = word_of c t k 4;
  start = word_of c t k 5;
  core = word_of c t k 6;
  done = (says c).done t k;
}

-- The entry that they tell.
abbrev pub entry_in : ClosedSeen → (t k : ℕ) → Entry
entry_in c t k = entry_of t k (words_in c t k)

-- The entry is that of a done instance.
pub record IsEntryIn (c : ClosedSeen) (e : Entry) : Type 0 where
  pub done : IsDone c e.rec.t e.rec.k
  pub is : e ≡ entry_in c e.rec.t e.rec.k

-- How many of the entries are of instance (t, k).
abbrev pub entries_of : (t k : ℕ) → List Entry → ℕ
entries_of t k es = sum_over (λ e. one_if_pair e.rec.t e.rec.k t k) es

-- The entries are those of the done instances, one of each, in the order of their starts.
pub record AreEntries (c : ClosedSeen) (es : List Entry) : Type 0 where
  pub own : All (IsEntryIn c) es
  pub one : (t k : ℕ) → IsInstance c.opening.program t k → entries_of t k es ≡ sign ((says c).done t k)
  pub rises : Rises es

-- The outcomes are those of the first n tasks in the serial run, by their numbers.
pub record AreOutcomes (o : Opening) (n : ℕ) (outcomes : List Outcome) : Type 0 where
  pub one_each : length outcomes ≡ n
  pub each : (t : ℕ) → t < n → slice_get outcomes t ≡ Some (outcome_of o t)

-- A finished machine: the number of its cores, the last memory, the outcome of each task, the entries of the
-- instances, and its closed words.
pub record FinishedValue : Type 0 where
  pub cores : ℕ
  pub image : List ℕ
  pub outcomes : List Outcome
  pub entries : List Entry
  pub closed : ClosedSeen

-- One with these parts.
abbrev pub finished_of : (cores : ℕ) → (image : List ℕ) → List Outcome → List Entry → ClosedSeen → FinishedValue
finished_of cores image outcomes entries closed =
    record { cores = cores; image = image; outcomes = outcomes; entries = entries; closed = closed }

-- All of it is as the closed words of a whole run say.
pub record IsFinished (f : FinishedValue) : Type 0 where
  pub run : IsClosedRun f.closed
  pub cores : f.cores ≡ f.closed.opening.cores
  pub image : f.image ≡ take f.closed.opening.program.map.words f.closed.words
  pub outcomes : AreOutcomes f.closed.opening (task_count f.closed.opening.program) f.outcomes
  pub entries : AreEntries f.closed f.entries

-- Its log.
abbrev pub log_of : FinishedValue → LogValue
log_of f = record { cores = f.cores; outcomes = f.outcomes; entries = f.entries }
