-- What the parts of the checker find.
use Rattle.std.specs.Prelude.{ℕ, ◌≡◌, ◌⊎◌, ◌&&◌, ◌||◌, ◌==◌, Bool, List, Option, Some, None, MatchOption, Any, nat_lt, if◌then◌else◌}
use Rattle.plural_regions.specs.declared.region.Region.{Region}
use Rattle.plural_regions.specs.declared.region.Mode.TheVariants as mode
use Rattle.plural_regions.specs.declared.triple.Meet.{Meet}
use Rattle.plural_regions.specs.Meeting.{Meets, IsNoLater}
use Rattle.plural_map.specs.Value.{TaskValue}
use Rattle.plural_crew.specs.Clashes.{IsClash, InOrder}

-- A triple that has the property, and of all that have it the least.
pub record IsLeastWith (P : ℕ → ℕ → ℕ → Type 0) (k l a : ℕ) : Type 0 where
  pub has : P k l a
  pub least : (i j b : ℕ) → P i j b → IsNoLater k l a i j b

-- The least triple that has the property, or none if none has it.
abbrev pub IsLeastOf : (ℕ → ℕ → ℕ → Type 0) → Option Meet → Type 0
IsLeastOf P o = MatchOption o ((k l a : ℕ) → P k l a → ⊥) (λ m. IsLeastWith P m.k m.l m.a)

-- One of the regions is a write region.
abbrev pub OneWrites : Region → Region → Type 0
OneWrites r s = (r.mode ≡ mode.Write) ⊎ (s.mode ≡ mode.Write)

-- The regions meet at the triple, and one of them is a write region.
abbrev pub MeetWriting : Region → ℕ → Region → ℕ → Bool → (k l a : ℕ) → Type 0
MeetWriting r q1 s q2 same_task k l a = OneWrites r s × Meets r q1 s q2 same_task k l a

-- The region meets one of the regions of the list at the triple, and one of the two is a write region.
abbrev pub MeetsSome : Region → ℕ → List Region → ℕ → Bool → (k l a : ℕ) → Type 0
MeetsSome r q1 ss q2 same_task k l a = Any (λ s. MeetWriting r q1 s q2 same_task k l a) ss

-- A region of one list meets one of the other at the triple, and one of the two is a write region.
abbrev pub SomeMeet : List Region → ℕ → List Region → ℕ → Bool → (k l a : ℕ) → Type 0
SomeMeet rs q1 ss q2 same_task k l a = Any (λ r. MeetsSome r q1 ss q2 same_task k l a) rs

-- The first triple is less, by its first number, then its second, then its third.
abbrev pub is_less : Meet → Meet → Bool
is_less m n = nat_lt m.k n.k || (m.k == n.k && (nat_lt m.l n.l || (m.l == n.l && nat_lt m.a n.a)))

-- The lesser of two triples, if they are there.
abbrev pub lesser : Option Meet → Option Meet → Option Meet
lesser None o = o
lesser (Some m) None = Some m
lesser (Some m) (Some n) = if is_less n m then Some n else Some m

-- Instances of the two tasks clash at the triple, in normal order.
abbrev pub ClashAt : List TaskValue → (t u : ℕ) → (k l a : ℕ) → Type 0
ClashAt tasks t u k l a = IsClash tasks t k u l a × InOrder t k u l

-- No instances of the two tasks clash in normal order.
abbrev pub NoneClash : List TaskValue → (t u : ℕ) → Type 0
NoneClash tasks t u = (k l a : ℕ) → ClashAt tasks t u k l a → ⊥
