-- The instances of a serial run follow one another along the map's order.
use Rattle.std.proofs.Common.{◌≡◌, ℕ, zero, suc, ◌+◌, ◌<◌, List, [], ◌∷◌, ◌++◌, length, drop, get_or, refl, subst, arith, append_assoc, append-nil, ◌⊎◌, inl, inr}
use Rattle.std.specs.Prelude.{fold, slice_index}
use Rattle.std.specs.List.{All}
use Rattle.std.proofs.lemmas.List.{drop_more, drop_all}
use Rattle.std.proofs.lemmas.List.Elements.{All-push, All-head, All-tail}
use Rattle.plural_map.specs.declared.outcome.Decision.{Decision}
use Rattle.plural_map.specs.declared.outcome.Decision.TheVariants as decision
use Rattle.plural_map.specs.Decisions.{decided}
use Rattle.plural_serial.specs.Program.{ProgramValue, task_at}
use Rattle.plural_serial.specs.Serial.{Started, Run, instances, with_task, by_decision, opening, serial_of}

-- ---- instances by their places

-- The instance is of the task at this place of the order.
pub record IsPlaced (order : List ℕ) (i : ℕ) (s : Started) : Type 0 where
  pub at : ℕ
  pub below : at < i
  pub within : at < length order
  pub there : slice_index order at ≡ s.t

-- The second follows the first: at a later place, or at the same with a larger number.
pub record Follows (order : List ℕ) (s u : Started) : Type 0 where
  pub at : ℕ
  pub later : ℕ
  pub there : slice_index order at ≡ s.t
  pub here : slice_index order later ≡ u.t
  pub within : later < length order
  pub step : (at < later) ⊎ ((at ≡ later) × (s.k < u.k))

-- Each follows all before it.
abbrev pub InTurn : List ℕ → List Started → Type 0
InTurn order [] = Unit {0}
InTurn order (s ∷ ss) = All (Follows order s) ss × InTurn order ss

turn_push : (order : List ℕ) (ss : List Started) (u : Started) → InTurn order ss → All (λ s. Follows order s u) ss → InTurn order (ss ++ u ∷ [])
turn_push order [] u h a = ((λ k d lt. absurd (omega arith)), tt)
turn_push order (s ∷ ss) u h a =
    (All-push (Follows order s) ss u h.0 (All-head (λ s. Follows order s u) s ss a), turn_push order ss u h.1 (All-tail (λ s. Follows order s u) s ss a))

-- What a run has after the first i tasks of the order.
pub record IsRun (order : List ℕ) (i : ℕ) (ss : List Started) : Type 0 where
  pub placed : All (IsPlaced order i) ss
  pub turn : InTurn order ss

-- An earlier place, or this place with a lesser number.
abbrev IsBelow : List ℕ → (i k : ℕ) → Started → Type 0
IsBelow order i k s = IsPlaced order i s ⊎ ((slice_index order i ≡ s.t) × (s.k < k))

below_follows : (order : List ℕ) (i k : ℕ) (s u : Started) → i < length order → slice_index order i ≡ u.t → u.k ≡ k → IsBelow order i k s → Follows order s u
below_follows order i k s u l e f h = elim h [
  | inl p ↦ record { at = p.at; later = i; there = p.there; here = e; within = l; step = inl p.below }
  | inr q ↦ record { at = i; later = i; there = q.0; here = e; within = l; step = inr (refl, (let a = q.1 in omega arith)) }
]

below_more : (order : List ℕ) (i k : ℕ) (s : Started) → IsBelow order i k s → IsBelow order i (suc k) s
below_more order i k s h = elim h [
  | inl p ↦ inl p
  | inr q ↦ inr (q.0, (let a = q.1 in omega arith))
]

all_more : (P Q : Started → Type 0) (xs : List Started) → ((s : Started) → P s → Q s) → All P xs → All Q xs
all_more P Q xs f h = λ k d lt. f (get_or xs k d) (h k d lt)

-- The instances of the task at place i, after those of the places before.
pub record IsBlock (order : List ℕ) (i k : ℕ) (ss : List Started) : Type 0 where
  pub below : All (IsBelow order i k) ss
  pub turn : InTurn order ss

block_of : (p : ProgramValue) (order : List ℕ) (i k : ℕ) (m : List ℕ) (base : List Started) → i < length order → IsRun order i base → IsBlock order i k (base ++ (instances p (slice_index order i) k m).ran)
unfolding instances
block_of p order i zero m base l h = rw (append-nil base) (record { below = all_more (IsPlaced order i) (IsBelow order i zero) base (λ s q. inl q) h.placed; turn = h.turn })
block_of p order i (suc k) m base l h =
    let t = slice_index order i in
    let old = base ++ (instances p t k m).ran in
    let new : Started = record { t = t; k = k; start = (instances p t k m).memory } in
    let b = block_of p order i k m base l h in
    rw (← append_assoc base (instances p t k m).ran (new ∷ []))
    (record {
      below = All-push (IsBelow order i (suc k)) old new (all_more (IsBelow order i k) (IsBelow order i (suc k)) old (λ s q. below_more order i k s q) b.below) (inr (refl, (omega arith)));
      turn = turn_push order old new b.turn (all_more (IsBelow order i k) (λ s. Follows order s new) old (λ s q. below_follows order i k s new l refl refl q) b.below);
    })

placed_more : (order : List ℕ) (i : ℕ) (s : Started) → IsPlaced order i s → IsPlaced order (i + 1) s
placed_more order i s h = let b = h.below in record { at = h.at; below = omega arith; within = h.within; there = h.there }

below_placed : (order : List ℕ) (i k : ℕ) (s : Started) → i < length order → IsBelow order i k s → IsPlaced order (i + 1) s
below_placed order i k s l h = elim h [
  | inl p ↦ placed_more order i s p
  | inr q ↦ record { at = i; below = omega arith; within = l; there = q.0 }
]

decision_run : (p : ProgramValue) (order : List ℕ) (i : ℕ) (d : Decision) (r : Run) → i < length order → IsRun order i r.ran → IsRun order (i + 1) (by_decision d p (slice_index order i) r).ran
decision_run p order i decision.Fail r l h = record { placed = all_more (IsPlaced order i) (IsPlaced order (i + 1)) r.ran (λ s q. placed_more order i s q) h.placed; turn = h.turn }
decision_run p order i decision.Skip r l h = record { placed = all_more (IsPlaced order i) (IsPlaced order (i + 1)) r.ran (λ s q. placed_more order i s q) h.placed; turn = h.turn }
decision_run p order i decision.Run r l h =
    let q = (task_at p (slice_index order i)).quota in
    let b = block_of p order i q r.memory r.ran l h in
    record { placed = all_more (IsBelow order i q) (IsPlaced order (i + 1)) (r.ran ++ (instances p (slice_index order i) q r.memory).ran) (λ s x. below_placed order i q s l x) b.below; turn = b.turn }

-- The instances of one task more.
pub task_run : (p : ProgramValue) (order : List ℕ) (i : ℕ) (r : Run) → i < length order → IsRun order i r.ran → IsRun order (i + 1) (with_task p r (slice_index order i)).ran
unfolding with_task
task_run p order i r l h = decision_run p order i (decided (task_at p (slice_index order i)) r.outcomes) r l h

order_run : (p : ProgramValue) (order : List ℕ) (fuel i : ℕ) (r : Run) → length order ≡ fuel + i → IsRun order i r.ran → IsRun order (length order) (fold (with_task p) r (drop i order)).ran
order_run p order zero i r e h =
    let d : drop i order ≡ [] = drop_all i order (omega arith) in
    let same : i ≡ length order = omega arith in
    rw d (subst (λ n. IsRun order n r.ran) same h)
order_run p order (suc fuel) i r e h =
    let l : i < length order = omega arith in
    let d : drop i order ≡ get_or order i 0 ∷ drop (i + 1) order = drop_more order i 0 l in
    rw d (order_run p order fuel (i + 1) (with_task p r (slice_index order i)) (omega arith) (task_run p order i r l h))

-- The instances of a serial run, along the order of the map.
pub serial_run : (p : ProgramValue) (m : List ℕ) → IsRun p.map.order (length p.map.order) (serial_of p m).ran
serial_run p m = order_run p p.map.order (length p.map.order) 0 (opening p m) (omega arith) (record { placed = λ k d lt. absurd (omega arith); turn = tt })
