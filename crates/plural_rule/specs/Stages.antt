-- What a stage says: the instance that it holds, and its tickets. (This project's own.)
use Rattle.std.specs.Prelude.{ℕ, ◌≡◌, ◌+◌, ◌<◌, ◌≤◌, List, [], ◌∷◌, length, cond, ◌==◌, Option, Some, None}
use Rattle.plural_order.specs.Sums.{one_if}
use Rattle.plural_counters.specs.Duties.{one_if_pair}
use Rattle.plural_rule.specs.Opening.{Opening, IsInstance, stores_of}
use Rattle.plural_rule.specs.declared.view.Stage.{Stage}
use Rattle.plural_rule.specs.declared.view.Stage.TheVariants.{Free, Got, Begun, Ended}
use Rattle.plural_rule.specs.declared.view.Role.{Role}
use Rattle.plural_rule.specs.declared.view.Role.TheVariants.{Seat, Root, Spent}

-- 1 if the stage holds instance (t, k), else 0.
abbrev pub holds : Stage → (t k : ℕ) → ℕ
holds Free t k = 0
holds (Got u l) t k = one_if_pair u l t k
holds (Begun u l start made reads) t k = one_if_pair u l t k
holds (Ended u l start end reads noted) t k = one_if_pair u l t k

-- 1 if it has begun instance (t, k), else 0. One that has ended was begun.
abbrev pub has_begun : Stage → (t k : ℕ) → ℕ
has_begun Free t k = 0
has_begun (Got u l) t k = 0
has_begun (Begun u l start made reads) t k = one_if_pair u l t k
has_begun (Ended u l start end reads noted) t k = one_if_pair u l t k

-- How many tickets it has still to draw.
abbrev pub tickets_to_draw : Stage → ℕ
tickets_to_draw Free = 0
tickets_to_draw (Got t k) = 2
tickets_to_draw (Begun t k start made reads) = 1
tickets_to_draw (Ended t k start end reads noted) = 0

-- How often it has drawn ticket x.
abbrev pub drawn : (x : ℕ) → Stage → ℕ
drawn x Free = 0
drawn x (Got t k) = 0
drawn x (Begun t k start made reads) = one_if start x
drawn x (Ended t k start end reads noted) = one_if start x + one_if end x

-- It has begun instance (t, k), at the ticket s.
abbrev pub StartsAt : Stage → (t k s : ℕ) → Type 0
StartsAt Free t k s = ⊥
StartsAt (Got u l) t k s = ⊥
StartsAt (Begun u l start made reads) t k s = (u ≡ t) × (l ≡ k) × (start ≡ s)
StartsAt (Ended u l start end reads noted) t k s = (u ≡ t) × (l ≡ k) × (start ≡ s)

-- What it holds is an instance of the program; its start is before its end, and both are before the clock; it has made
-- no more stores than the instance makes.
abbrev pub IsStage : Opening → (clock : ℕ) → Stage → Type 0
IsStage o clock Free = Unit {0}
IsStage o clock (Got t k) = IsInstance o.program t k
IsStage o clock (Begun t k start made reads) =
    IsInstance o.program t k × (start < clock) × (made ≤ length (stores_of o t k))
IsStage o clock (Ended t k start end reads noted) = IsInstance o.program t k × (start < end) × (end < clock)

-- The latest value that was noted for a field.
abbrev pub noted_of : (f : ℕ) → List (ℕ × ℕ) → Option ℕ
noted_of f [] = None
noted_of f (x ∷ xs) = cond (x.0 == f) (Some x.1) (noted_of f xs)

-- 1 if the role is that of the seat with core number c, else 0.
abbrev pub is_seat : (c : ℕ) → Role → ℕ
is_seat c (Seat d) = one_if d c
is_seat c (Root outs) = 0
is_seat c Spent = 0

-- The core numbers of the seats that are out, as the root knows them.
abbrev pub outs_of : Role → List ℕ
outs_of (Seat c) = []
outs_of (Root outs) = outs
outs_of Spent = []
