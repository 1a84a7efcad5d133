-- What can be searched for the least meeting, and what the parts of the search find.
use Rattle.std.specs.Prelude.{ℕ, ◌+◌, ◌*◌, ◌<◌, ◌≤◌, Bool}
use Rattle.plural_regions.specs.Bounds.{AllInside}
use Rattle.plural_regions.specs.Meeting.{Meets, NeverMeet}
use Rattle.plural_regions.specs.declared.region.Region.{Region}

-- The instances of the region below q can be searched: q is at most 16,384, and all their words are below 1,048,576.
pub record IsSearchable (r : Region) (q : ℕ) : Type 0 where
  pub few : q ≤ 16384
  pub inside : AllInside r q 1048576

-- Instance l of the region has one of the `count` words from `start` on.
pub record Reaches (r : Region) (start count l : ℕ) : Type 0 where
  pub begins : r.base + r.stride * l < start + count
  pub ends : start < r.base + r.stride * l + r.count

-- L is the least instance from `low` up to q that has one of the `count` words from `start` on.
pub record IsFirstReaching (r : Region) (start count low q l : ℕ) : Type 0 where
  pub from_low : low ≤ l
  pub below : l < q
  pub reaches : Reaches r start count l
  pub least : (j : ℕ) → low ≤ j → Reaches r start count j → l ≤ j

-- No instance from `low` up to q has one of the `count` words from `start` on.
abbrev pub NeverReaches : Region → (start count low q : ℕ) → Type 0
NeverReaches r start count low q = (l : ℕ) → low ≤ l → l < q → Reaches r start count l → ⊥

-- Of the meetings of instance k, the one with (l, a) is the least.
pub record IsLeastAt (r : Region) (q1 : ℕ) (s : Region) (q2 : ℕ) (same_task : Bool) (k l a : ℕ) : Type 0 where
  pub meets : Meets r q1 s q2 same_task k l a
  pub second : (j b : ℕ) → Meets r q1 s q2 same_task k j b → l ≤ j
  pub third : (b : ℕ) → Meets r q1 s q2 same_task k l b → a ≤ b

-- Instance k meets none.
abbrev pub NeverAt : Region → ℕ → Region → ℕ → Bool → ℕ → Type 0
NeverAt r q1 s q2 same_task k = (l a : ℕ) → Meets r q1 s q2 same_task k l a → ⊥

-- No instance before k meets any, and if some instance meets one, k does.
pub record IsCandidate (r : Region) (q1 : ℕ) (s : Region) (q2 : ℕ) (same_task : Bool) (k : ℕ) : Type 0 where
  pub below : k < q1
  pub first : (i j b : ℕ) → Meets r q1 s q2 same_task i j b → k ≤ i
  pub met : NeverAt r q1 s q2 same_task k → NeverMeet r q1 s q2 same_task
