-- The first number of a range that passes.
use Rattle.std.proofs.Common.{ℕ, ◌≡◌, ◌+◌, ◌-◌, ◌<◌, ◌≤◌, suc, Bool, true, false, Some, None, find, arith, refl}
use Rattle.std.specs.List.{range_with_len}

from_next : (p : ℕ → Bool) (n rest more : ℕ) → rest ≡ suc more → p n ≡ false → find p (range_with_len n rest) ≡ find p (range_with_len (n + 1) more)
from_next p n rest more e h = rw e (rw h refl)

from_this : (p : ℕ → Bool) (n rest more : ℕ) → rest ≡ suc more → p n ≡ true → find p (range_with_len n rest) ≡ Some n
from_this p n rest more e h = rw e (rw h refl)

-- one that fails is passed over
pub find-next : (p : ℕ → Bool) (n end : ℕ) → n < end → p n ≡ false → find p (range_with_len n (end - n)) ≡ find p (range_with_len (n + 1) (end - (n + 1)))
find-next p n end l h = from_next p n (end - n) (end - (n + 1)) (omega arith) h

-- one that passes is found
pub find-this : (p : ℕ → Bool) (n end : ℕ) → n < end → p n ≡ true → find p (range_with_len n (end - n)) ≡ Some n
find-this p n end l h = from_this p n (end - n) (end - (n + 1)) (omega arith) h

from_none : (p : ℕ → Bool) (n rest : ℕ) → rest ≡ 0 → find p (range_with_len n rest) ≡ None
from_none p n rest e = rw e refl

-- at the end there is none
pub find-end : (p : ℕ → Bool) (n end : ℕ) → end ≤ n → find p (range_with_len n (end - n)) ≡ None
find-end p n end l = from_none p n (end - n) (omega arith)
