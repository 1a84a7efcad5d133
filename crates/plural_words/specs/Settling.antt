-- What the steps that settle tasks do to the view of a seat, by the duty that a step does. (This project's own.)
use Rattle.std.specs.Prelude.{ℕ, ◌≡◌, ◌==◌, ◌&&◌, not, Bool, true, false, cond, List, [], ◌∷◌, ◌++◌, slice_get, Option}
use Rattle.plural_map.specs.declared.outcome.Decision.{Decision}
use Rattle.plural_map.specs.declared.outcome.Outcome.{Outcome}
use Rattle.plural_map.specs.declared.outcome.Outcome.TheVariants as outcome
use Rattle.plural_order.specs.TaskGraph.{decision_by}
use Rattle.plural_counters.specs.Laws.{decision_of_state}
use Rattle.plural_counters.specs.Steps.{tell_first, tell_next, on_decision}
use Rattle.plural_counters.specs.declared.duty.Duty.{Duty}
use Rattle.plural_counters.specs.declared.duty.Duty.TheVariants.{Flag, Count, Close, Tell, Decide, Arm, Told}
use Rattle.plural_rule.specs.Opening.{Opening, graph_in, outcome_of}
use Rattle.plural_rule.specs.Steps.{gives_way, armed}
use Rattle.plural_rule.specs.declared.view.View.{View}
use Rattle.plural_words.specs.Seen.{SeatSeen, seat_with}

-- The two are equal, as a test.
abbrev pub same_half : Bool → Bool → Bool
same_half true h = h
same_half false h = not h

-- The two are equal, as a test.
abbrev pub same_outcome : Outcome → Outcome → Bool
same_outcome outcome.Ended0 outcome.Ended0 = true
same_outcome outcome.Ended1 outcome.Ended1 = true
same_outcome outcome.Skipped outcome.Skipped = true
same_outcome outcome.Failed outcome.Failed = true
same_outcome _ _ = false

-- The two are equal, as a test.
abbrev pub same_duty : Duty → Duty → Bool
same_duty (Flag t k) (Flag u l) = (t == u) && (k == l)
same_duty (Count t k) (Count u l) = (t == u) && (k == l)
same_duty (Close t) (Close u) = t == u
same_duty (Tell t o e h) (Tell u p f i) = ((t == u) && (e == f)) && (same_outcome o p && same_half h i)
same_duty (Decide t) (Decide u) = t == u
same_duty (Arm t) (Arm u) = t == u
same_duty (Told t o) (Told u p) = (t == u) && same_outcome o p
same_duty _ _ = false

-- The duties without the first that is this one.
abbrev pub without : Duty → List Duty → List Duty
without d [] = []
without d (e ∷ l) = cond (same_duty d e) l (e ∷ without d l)

-- The duty gives way to these: they come first, and the others stay as they are.
abbrev pub settled : View → (old : Duty) → (new : List Duty) → View
settled v old new = gives_way v new (without old v.owes)

-- So it does for a seat.
abbrev pub seat_settled : SeatSeen → (old : Duty) → (new : List Duty) → SeatSeen
seat_settled s old new = seat_with s (settled s.view old new)

-- Task t is armed, and the duty to arm it goes.
abbrev pub armed_now : View → (t : ℕ) → View
armed_now v t = armed v t (without (Arm t) v.owes)

-- ---- the task that is being told

-- The outcome that is being told of task t. (Failed if t isn't being told.)
abbrev pub outcome_told : List Duty → (t : ℕ) → Outcome
outcome_told [] t = outcome.Failed
outcome_told (Tell u o e h ∷ l) t = cond (u == t) o (outcome_told l t)
outcome_told (_ ∷ l) t = outcome_told l t

-- The place, among the successors of task t, of the one that it is told to next. (0 if t isn't being told.)
abbrev pub place_told : List Duty → (t : ℕ) → ℕ
place_told [] t = 0
place_told (Tell u o e h ∷ l) t = cond (u == t) e (place_told l t)
place_told (_ ∷ l) t = place_told l t

-- The duty to go on telling task t, with the dependency at hand marked already, or not.
abbrev pub telling : List Duty → (t : ℕ) → (half : Bool) → Duty
telling owes t half = Tell t (outcome_told owes t) (place_told owes t) half

-- The successor that task t is told to next.
abbrev pub next_told : Opening → List Duty → (t : ℕ) → Option ℕ
next_told o owes t = slice_get ((graph_in o).successors t) (place_told owes t)

-- ---- what a step makes due

-- Task t begins to be told, with its outcome in the serial run.
abbrev pub told_first : Opening → (t : ℕ) → List Duty
told_first o t = tell_first ((graph_in o).successors t) t (outcome_of o t)

-- Task t is told on, with this outcome, after the successor at place e, which is task u: if u waited for no other
-- task, it is to be decided.
abbrev pub told_on : Opening → (t : ℕ) → Outcome → (e u : ℕ) → (last : Bool) → List Duty
told_on o t outcome e u last = cond last (Decide u ∷ []) [] ++ tell_next ((graph_in o).successors t) t outcome e

-- What is decided of task t in the serial run.
abbrev pub decision_in : Opening → (t : ℕ) → Decision
decision_in o t = decision_by (graph_in o) t

-- The state of task t says so.
abbrev pub SaysDecision : Opening → (t state : ℕ) → Type 0
SaysDecision o t state = decision_of_state (graph_in o) t state ≡ decision_in o t

-- What that makes due.
abbrev pub decided : Opening → (t : ℕ) → List Duty
decided o t = on_decision (graph_in o) t (decision_in o t)

-- The seat after the dependency at place e of the successors of task t is marked: it is still to be counted.
abbrev pub edge_marked : SeatSeen → (t : ℕ) → Outcome → (e : ℕ) → SeatSeen
edge_marked s t outcome e = seat_settled s (Tell t outcome e false) (Tell t outcome e true ∷ [])

-- The seat after it is counted, of task u: task t is told on.
abbrev pub edge_counted : Opening → SeatSeen → (t : ℕ) → Outcome → (e u : ℕ) → (last : Bool) → SeatSeen
edge_counted o s t outcome e u last = seat_settled s (Tell t outcome e true) (told_on o t outcome e u last)

-- So they are of the successor that task t is told to next.
abbrev pub next_marked : SeatSeen → (t : ℕ) → SeatSeen
next_marked s t = edge_marked s t (outcome_told s.view.owes t) (place_told s.view.owes t)

abbrev pub next_counted : Opening → SeatSeen → (t u : ℕ) → (last : Bool) → SeatSeen
next_counted o s t u last = edge_counted o s t (outcome_told s.view.owes t) (place_told s.view.owes t) u last
