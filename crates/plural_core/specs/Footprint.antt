-- What the life of an instance depends on, and what it touches. (This project's own.)
use Rattle.std.specs.Prelude.{ℕ, ◌≡◌, ◌<◌, true, List, length, slice_index}
use Rattle.std.specs.List.{All}
use Rattle.plural_regions.specs.Rights.{may_read, may_write}
use Rattle.plural_core.specs.Turn.{Place, Step}

-- Two memories agree on the words that an instance may read, and both have them.
pub record Agrees (p : Place) (m n : List ℕ) : Type 0 where
  pub words : (a : ℕ) → may_read p.regions p.k a ≡ true → slice_index m a ≡ slice_index n a
  pub inside : (a : ℕ) → may_read p.regions p.k a ≡ true → (a < length m) × (a < length n)

-- Two steps have the same state and accesses, and their memories agree.
pub record Alike (p : Place) (x y : Step) : Type 0 where
  pub state : x.state ≡ y.state
  pub loads : x.loads ≡ y.loads
  pub stores : x.stores ≡ y.stores
  pub agrees : Agrees p x.memory y.memory

-- A step touches only what the instance may: each word loaded from may be read, each word stored to may be written.
pub record IsGuarded (p : Place) (x : Step) : Type 0 where
  pub loads : All (λ a. may_read p.regions p.k a ≡ true) x.loads
  pub stores : All (λ s. may_write p.regions p.k s.0 ≡ true) x.stores
