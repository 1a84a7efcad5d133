-- What holds of the life of an instance after any number of its turns. (This project's own.)
use Rattle.std.specs.Prelude.{ℕ, ◌≡◌, ◌+◌, ◌<◌, ◌≤◌, ◌^◌, List, length, IfSome}
use Rattle.plural_base.specs.Stores.{sets}
use Rattle.plural_core.specs.Turn.{State, Place, Step}
use Rattle.plural_core.specs.Life.{life, join}
use Rattle.plural_core.specs.Ends.{IsEnd}

-- The turns of a life are its first i and then its next j.
abbrev pub TurnsJoin : Type 0
TurnsJoin = (i j : ℕ) (p : Place) (s : State) (m : List ℕ)
    → life (i + j) p s m ≡ join (life i p s m) (life j p (life i p s m).state (life i p s m).memory)

-- After any number of turns the memory is the opening one with the stores made so far set in order.
abbrev pub StoresSet : Type 0
StoresSet = (n : ℕ) (p : Place) (s : State) (m : List ℕ) → (life n p s m).memory ≡ sets m (life n p s m).stores

-- From the state s on at most n instructions were completed, and at most n load accesses and n stores made.
pub record IsFew (n : ℕ) (s : State) (x : Step) : Type 0 where
  pub instructions : x.state.count ≤ s.count + n
  pub loads : length x.loads ≤ n
  pub stores : length x.stores ≤ n

-- So it is after n turns.
abbrev pub FewInTurns : Type 0
FewInTurns = (n : ℕ) (p : Place) (s : State) (m : List ℕ) → IsFew n s (life n p s m)

-- From a pc below 2^32 on, a trap's cause is 1 to 9 and its pc below 2^32.
abbrev pub CausesKnown : Type 0
CausesKnown = (n : ℕ) (p : Place) (s : State) (m : List ℕ) → s.pc < 2 ^ 32 → IfSome s.over IsEnd
    → IfSome (life n p s m).state.over IsEnd
