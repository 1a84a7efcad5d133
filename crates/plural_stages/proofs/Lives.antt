-- The turns of an instance in the serial run.
use Rattle.std.proofs.Common.{ℕ, ◌≡◌, ◌+◌, ◌-◌, ◌<◌, List, [], ◌++◌, Some, None, refl, sym, ap, ◌∙◌, arith, append-nil}
use Rattle.plural_core.specs.Turn.{State, Place, Step, turn}
use Rattle.plural_core.specs.Life.{life, join}
use Rattle.plural_core.specs.declared.end.End.{End}
use Rattle.plural_core.proofs.Lives.{life_last, foreseen}
use Rattle.plural_core.proofs.LifeLaws.{turns_join}
use Rattle.plural_serial.specs.Program.{task_at, place_at, start_state}
use Rattle.plural_serial.specs.Serial.{ended}
use Rattle.plural_order.specs.World.{start_at}
use Rattle.plural_rule.specs.Opening.{Opening, world_in, stores_of, record_of}
use Rattle.plural_stages.specs.Engines.{turns_of, all_turns_of}

-- One turn of a state without end.
life_one : (p : Place) (s : State) (m : List ℕ) → s.over ≡ None → life 1 p s m ≡ turn p s m
unfolding life
life_one p s m h = rw h (rw (append-nil, append-nil) refl)

-- ---- what the serial run says of an instance

-- Its stores are those of all its turns.
pub stores_are : (o : Opening) (t k : ℕ) → stores_of o t k ≡ (all_turns_of o t k).stores
unfolding world_in
stores_are o t k = refl

-- Its end is that after all its turns.
pub end_is : (o : Opening) (t k : ℕ) (e : End) → (all_turns_of o t k).state.over ≡ Some e → e ≡ (record_of o t k).«end»
unfolding world_in record_of
end_is o t k e h = sym (ap ended h)

-- ---- its turns so far, and those to come

-- The turns so far are n, after which it goes on.
pub record IsAt (o : Opening) (t k n : ℕ) : Type 0 where
  pub count : (turns_of o t k n).state.count ≡ n
  pub over : (turns_of o t k n).state.over ≡ None
  pub room : n < (task_at o.program t).budget

-- The turn after them.
abbrev pub next_of : Opening → (t k n : ℕ) → Step
next_of o t k n = turn (place_at o.program t k) (turns_of o t k n).state (turns_of o t k n).memory

-- All turns after them.
abbrev pub left_of : Opening → (t k n : ℕ) → Step
left_of o t k n = life ((task_at o.program t).budget - n) (place_at o.program t k) (turns_of o t k n).state (turns_of o t k n).memory

-- All turns are those so far and those that are left.
pub all_are : (o : Opening) (t k n : ℕ) → IsAt o t k n → all_turns_of o t k ≡ join (turns_of o t k n) (left_of o t k n)
all_are o t k n h =
    let b = (task_at o.program t).budget in
    let room = h.room in
    let e : n + (b - n) ≡ b = omega arith in
    let p = place_at o.program t k in
    let s = start_state o.program t k in
    let m = start_at (world_in o) (t, k) in
    ap (λ (i : ℕ). life i p s m) (sym e) ∙ turns_join n (b - n) p s m

-- With the next turn they are one more.
pub next_are : (o : Opening) (t k n : ℕ) → IsAt o t k n → turns_of o t k (n + 1) ≡ join (turns_of o t k n) (next_of o t k n)
next_are o t k n h =
    let p = place_at o.program t k in
    let s = start_state o.program t k in
    let m = start_at (world_in o) (t, k) in
    let x = turns_of o t k n in
    turns_join n 1 p s m ∙ ap (join x) (life_one p x.state x.memory h.over)

-- If that has an end, they are all.
pub last_are : (o : Opening) (t k n : ℕ) (e : End) → IsAt o t k n → (next_of o t k n).state.over ≡ Some e → all_turns_of o t k ≡ join (turns_of o t k n) (next_of o t k n)
last_are o t k n e h over =
    let b = (task_at o.program t).budget in
    let p = place_at o.program t k in
    let x = turns_of o t k n in
    let count = h.count in
    let room = h.room in
    let last = life_last b p x.state x.memory e h.over (omega arith) over in
    all_are o t k n h ∙ ap (join x) (ap (λ (i : ℕ). life (b - i) p x.state x.memory) (sym count) ∙ last)

-- The stores of the instance are those so far and those that are left.
pub left_ahead : (o : Opening) (t k n : ℕ) → IsAt o t k n → stores_of o t k ≡ (turns_of o t k n).stores ++ ((left_of o t k n).stores ++ [])
left_ahead o t k n h =
    let x = turns_of o t k n in
    stores_are o t k ∙ ap (λ (y : Step). y.stores) (all_are o t k n h) ∙ ap (λ (l : List (ℕ × ℕ)). x.stores ++ l) (sym (append-nil (left_of o t k n).stores))

-- They are those so far, those of the next turn, and more.
pub record HasAhead (o : Opening) (t k n : ℕ) : Type 0 where
  pub more : List (ℕ × ℕ)
  pub all : stores_of o t k ≡ (turns_of o t k n).stores ++ ((next_of o t k n).stores ++ more)

-- An instance that hasn't come to its last turn has a turn ahead.
pub next_ahead : (o : Opening) (t k n : ℕ) → IsAt o t k n → HasAhead o t k n
next_ahead o t k n h =
    let b = (task_at o.program t).budget in
    let p = place_at o.program t k in
    let x = turns_of o t k n in
    let count = h.count in
    let room = h.room in
    let f = foreseen b p x.state x.memory (Some (life (b - x.state.count) p x.state x.memory).stores) h.over (omega arith) refl in
    record {
      more = f.0;
      all = stores_are o t k ∙ ap (λ (y : Step). y.stores) (all_are o t k n h) ∙ ap (λ (l : List (ℕ × ℕ)). x.stores ++ l) (ap (λ (i : ℕ). (life (b - i) p x.state x.memory).stores) (sym count) ∙ f.1);
    }
