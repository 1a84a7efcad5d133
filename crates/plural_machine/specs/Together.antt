-- The cores of a machine, side by side. (This project's own.)
use Rattle.std.specs.Prelude.{ℕ, ◌≡◌, ◌<◌, List, length, slice_index_or}
use Rattle.plural_words.specs.Seen.{WordsSeen}
use Rattle.plural_cores.specs.Cores.{CoreSeen, IsOpened, IsReady, HasLeft}

-- Each core of the list is so, by its place.
pub record Each (P : ℕ → CoreSeen → Type 0) (cores : List CoreSeen) : Type 0 where
  pub at : (i : ℕ) (d : CoreSeen) → i < length cores → P i (slice_index_or cores i d)

-- The core has this number and no seat.
abbrev pub IsIdle : WordsSeen → ℕ → CoreSeen → Type 0
IsIdle w i c = IsOpened w.opening.program i c

-- It has this number and a free seat, which has found no less than what was found first.
pub record IsSent (w : WordsSeen) (first : List ℕ) (i : ℕ) (c : CoreSeen) : Type 0 where
  pub number : c.number ≡ i
  pub ready : IsReady w first c

-- It has this number, and has left.
pub record IsBack (w : WordsSeen) (first : List ℕ) (i : ℕ) (c : CoreSeen) : Type 0 where
  pub number : c.number ≡ i
  pub left : HasLeft w first c

-- Cores that were sent have left, whatever had been found first.
abbrev pub HaveComeBack : WordsSeen → (old new : List CoreSeen) → Type 0
HaveComeBack w old new = (first : List ℕ) → Each (IsSent w first) old → Each (IsBack w first) new

-- It was sent, whatever had been found first.
pub record IsAway (w : WordsSeen) (c : CoreSeen) : Type 0 where
  pub first : List ℕ
  pub ready : IsReady w first c

-- If it was sent, then it has left.
pub record ComesBack (w : WordsSeen) (old new : CoreSeen) : Type 0 where
  pub back : (first : List ℕ) → IsReady w first old → HasLeft w first new
  pub number : new.number ≡ old.number
