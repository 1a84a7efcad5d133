-- What the words say. (This project's own.)
use Rattle.std.specs.Prelude.{ℕ, List, slice_index}
use Rattle.plural_serial.specs.Program.{ProgramValue}
use Rattle.plural_rule.specs.Layout.{clock_at, alloc_at, done_at, field_at, flags_at, left_at, state_at, open_deps_at}

-- The word of memory of each address; the clock; of each task its five counters; of each instance its done word, and
-- the fields of its record.
pub record Content : Type 0 where
  pub mem : (a : ℕ) → ℕ
  pub clock : ℕ
  pub alloc : (t : ℕ) → ℕ
  pub flags : (t : ℕ) → ℕ
  pub left : (t : ℕ) → ℕ
  pub state : (t : ℕ) → ℕ
  pub open_deps : (t : ℕ) → ℕ
  pub done : (t k : ℕ) → ℕ
  pub field : (t k f : ℕ) → ℕ

-- Read off the words.
abbrev pub content : ProgramValue → List ℕ → Content
content p words = record {
  mem = λ a. slice_index words a;
  clock = slice_index words (clock_at p);
  alloc = λ t. slice_index words (alloc_at p t);
  flags = λ t. slice_index words (flags_at p t);
  left = λ t. slice_index words (left_at p t);
  state = λ t. slice_index words (state_at p t);
  open_deps = λ t. slice_index words (open_deps_at p t);
  done = λ t k. slice_index words (done_at p t k);
  field = λ t k f. slice_index words (field_at p t k f);
}

-- The start ticket and the core in the record of instance (t, k).
abbrev pub start_in : Content → (t k : ℕ) → ℕ
start_in c t k = c.field t k 5

abbrev pub core_in : Content → (t k : ℕ) → ℕ
core_in c t k = c.field t k 6
