-- What an instance of a program depends on, and where it stores. (This project's own.)
use Rattle.std.specs.Prelude.{ℕ, ◌≡◌, ◌<◌, true, List, length, slice_index}
use Rattle.std.specs.List.{All}
use Rattle.plural_regions.specs.Rights.{may_read, may_write}
use Rattle.plural_map.specs.Limits.{IsMap}
use Rattle.plural_serial.specs.Program.{ProgramValue, task_at, life_of}

-- Two memories of the map's length agree wherever instance k of task t may read.
pub record AgreeFor (p : ProgramValue) (t k : ℕ) (m n : List ℕ) : Type 0 where
  pub first : length m ≡ p.map.words
  pub second : length n ≡ p.map.words
  pub words : (a : ℕ) → may_read (task_at p t).regions k a ≡ true → slice_index m a ≡ slice_index n a

-- The lives of instance k of task t over two memories have the same loads, the same stores, the same completed
-- instructions, and the same end.
pub record LiveAlike (p : ProgramValue) (t k : ℕ) (m n : List ℕ) : Type 0 where
  pub loads : (life_of p t k m).loads ≡ (life_of p t k n).loads
  pub stores : (life_of p t k m).stores ≡ (life_of p t k n).stores
  pub instructions : (life_of p t k m).state.count ≡ (life_of p t k n).state.count
  pub over : (life_of p t k m).state.over ≡ (life_of p t k n).state.over

-- Each store of the life of instance k of task t over the memory m is to a word that the instance may write.
abbrev pub StoresWithin : ProgramValue → (t k : ℕ) → List ℕ → Type 0
StoresWithin p t k m = All (λ s. may_write (task_at p t).regions k s.0 ≡ true) (life_of p t k m).stores

-- For each program and each of its instances: if two memories agree wherever the instance may read, its lives over
-- them are alike, and it stores where it may write.
abbrev pub Footprint : Type 0
Footprint = (p : ProgramValue) (t k : ℕ) (m n : List ℕ) → IsMap p.map → t < length p.map.tasks → k < (task_at p t).quota
    → AgreeFor p t k m n → LiveAlike p t k m n × StoresWithin p t k m
