-- Where a call finds a word. (This project's own.)
use Rattle.std.specs.Prelude.{ℕ, ◌≡◌, ◌+◌, ◌*◌, ◌<◌, ◌≤◌, List, length, slice_get, Some}
use Rattle.atomic_table.specs.Seated.{TableId}
use Rattle.plural_serial.specs.Program.{ProgramValue, task_at}
use Rattle.plural_order.specs.Sums.{sum_below}
use Rattle.plural_rule.specs.Opening.{Opening, IsInstance, task_count, quota_of}
use Rattle.plural_rule.specs.Layout.{field_at, word_count}
use Rattle.plural_rule.specs.declared.view.Stage.{Stage}
use Rattle.plural_rule.specs.declared.view.Stage.TheVariants.{Free, Got, Begun, Ended}
use Rattle.plural_words.specs.declared.place.Place.{Place}

-- What the calls keep of task t: where its first record begins, how many dependencies it has, and whether one that is
-- met is enough.
abbrev pub place_of : ProgramValue → (t : ℕ) → Place
place_of p t = record { records = field_at p t 0 0; deps = length (task_at p t).deps; some = (task_at p t).some }

-- The program is within the limits that keep every place far below 2^64.
pub record IsSmall (p : ProgramValue) : Type 0 where
  pub words : p.map.words ≤ 1048576
  pub tasks : task_count p ≤ 256
  pub instances : sum_below (quota_of p) (task_count p) ≤ 65536

-- These are the places of the first n tasks, and this is where what comes after their records begins.
pub record ArePlaces (p : ProgramValue) (n : ℕ) (places : List Place) (after : ℕ) : Type 0 where
  pub all : length places ≡ n
  pub each : (t : ℕ) → t < n → slice_get places t ≡ Some (place_of p t)
  pub next : after ≡ p.map.words + 8 * sum_below (quota_of p) n

-- These are the places of a program, of each task one, and this is the first of its counters.
pub record HasPlaces (p : ProgramValue) (list : List Place) (first : ℕ) : Type 0 where
  pub small : IsSmall p
  pub places : ArePlaces p (task_count p) list first

-- A table of so many words and slots, and what the calls keep beside it, are those of an opening.
abbrev pub IsLaidOut : Opening → TableId → List Place → (first memory cores : ℕ) → Type 0
IsLaidOut o table places first memory cores = HasPlaces o.program places first
    × (table.words ≡ word_count o.program) × (memory ≡ o.program.map.words) × (cores ≡ o.cores) × (table.slots ≡ 0)

-- Where the record of the instance at this stage begins. (0 if it has none.)
abbrev pub record_at : ProgramValue → Stage → ℕ
record_at p Free = 0
record_at p (Got t k) = field_at p t k 0
record_at p (Begun t k start made reads) = field_at p t k 0
record_at p (Ended t k start end reads noted) = field_at p t k 0

-- This is where the record of instance (t, k) begins, far below 2^64.
pub record HasRecord (p : ProgramValue) (t k place : ℕ) : Type 0 where
  pub is : IsInstance p t k
  pub here : place ≡ field_at p t k 0
  pub low : place ≤ 1572864

-- The place of the record and the end ticket are those of the instance at this stage, as far as it has them.
abbrev pub IsPlaceOf : ProgramValue → Stage → (place last : ℕ) → Type 0
IsPlaceOf p Free place last = Unit {0}
IsPlaceOf p (Got t k) place last = HasRecord p t k place
IsPlaceOf p (Begun t k start made reads) place last = HasRecord p t k place
IsPlaceOf p (Ended t k start end reads noted) place last = HasRecord p t k place × (last ≡ end) × (end ≤ 131072)
