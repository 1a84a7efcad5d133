-- The rule of the table, and what each step tells the token that takes it. (This project's own.)
--
-- A step tells of itself (its word, and what it was to write), of the token before, of the number that it found, and
-- of the token after. It can't name the words' opening, which the token's view has.
use Rattle.std.specs.Prelude.{ℕ, ◌≡◌, ◌≢◌, ◌+◌, ◌^◌, ◌<◌, ◌≤◌, ◌==◌, true, cond, false, [], ◌∷◌, slice_index}
use Rattle.atomic_table.specs.Table.{State, Me, Step}
use Rattle.plural_map.specs.declared.outcome.Outcome.{Outcome}
use Rattle.plural_counters.specs.Counters.{IsSound}
use Rattle.plural_counters.specs.Laws.{outcome_of_flags}
use Rattle.plural_counters.specs.declared.duty.Duty.TheVariants.{Flag, Count, Close, Tell, Decide}
use Rattle.plural_rule.specs.Opening.{Opening, graph_in, outcome_of, task_count, quota_of}
use Rattle.plural_rule.specs.Layout.{alloc_at}
use Rattle.plural_rule.specs.Steps.{looked, lost, took, began, did_read, stored, ended, did_note, finished}
use Rattle.plural_rule.specs.Kept.{Kept, duties}
use Rattle.plural_rule.specs.Last.{KnowsWhole, HasTold}
use Rattle.plural_rule.specs.declared.view.View.{View}
use Rattle.plural_rule.specs.declared.view.Role.TheVariants.{Root}
use Rattle.plural_words.specs.Places.{record_at}
use Rattle.plural_words.specs.Stages.{instance_of, IsRead, IsUnderWay}
use Rattle.plural_words.specs.Settling.{settled, armed_now, told_first, told_on, decided, SaysDecision}

-- The rule holds of the words and of all views. No slot is used.
abbrev pub Holds : Opening → State (Unit {0}) View → Type 0
Holds o s = Kept o s.words s.views

-- A token of the table: its view, and the slots that it holds.
abbrev pub Token : Type 0
Token = Me (Unit {0}) View

abbrev pub Tells : Type 1
Tells = Step (Unit {0}) → Token → ℕ → Token → Type 0

-- The token after a step that changes its view.
abbrev pub IsNow : Token → View → Token → Type 0
IsNow m v n = n ≡ (v, m.1)

-- ---- claiming

-- A load of the alloc word of task t.
abbrev pub TellsLook : Tells
TellsLook step m found n = (t : ℕ) → t < task_count m.0.opening.program → step.word ≡ alloc_at m.0.opening.program t
    → IsNow m (looked m.0 t found) n × (slice_index m.0.found t ≤ found) × (found ≤ 1 + quota_of m.0.opening.program t)

-- An exchange of the alloc word of task t.
abbrev pub TellsExchange : Tells
TellsExchange step m found n = (t : ℕ) → t < task_count m.0.opening.program
    → step.word ≡ alloc_at m.0.opening.program t
    → (found ≤ 1 + quota_of m.0.opening.program t)
    × (found ≡ step.first → IsNow m (took m.0 t step.first) n)
    × (found ≢ step.first → IsNow m (lost m.0 t found) n × (step.first < found))

-- ---- an instance

-- A ticket is drawn, with which the instance begins, as in the serial run.
abbrev pub TellsBegin : Tells
TellsBegin step m found n = IsNow m (began m.0 found) n × (found ≤ 131072)
    × IsUnderWay m.0.opening (instance_of m.0.stage) found (began m.0 found).stage

-- A load of a word of the memory.
abbrev pub TellsRead : Tells
TellsRead step m found n = IsNow m (did_read m.0) n × (found < 2 ^ 32)
    × IsRead m.0.opening m.0.stage step.word found

-- A store of the instance.
abbrev pub TellsStore : Tells
TellsStore step m found n = IsNow m (stored m.0) n

-- A ticket is drawn, with which the instance ends.
abbrev pub TellsEnd : Tells
TellsEnd step m found n = IsNow m (ended m.0 found) n × (found ≤ 131072)

-- A store to field f of the instance's record.
abbrev pub TellsNote : Tells
TellsNote step m found n = (f : ℕ) → step.word ≡ record_at m.0.opening.program m.0.stage + f
    → IsNow m (did_note m.0 f step.first) n

-- The store that makes the instance done.
abbrev pub TellsFinish : Tells
TellsFinish step m found n = IsNow m (finished m.0) n

-- ---- the root

-- A load by the root tells it whether all is told, if no seat is out.
abbrev pub TellsAll : Tells
TellsAll step m found n = (n ≡ m)
    × (m.0.role ≡ Root [] → KnowsWhole m.0.opening m.0 → HasTold m.0.opening m.0)

-- ---- settling: each step does a duty that the view owes, and its duties are sound then

-- The duties of the token after are sound.
abbrev pub IsSoundNow : Token → Token → Type 0
IsSoundNow m n = IsSound (graph_in m.0.opening) (duties n.0)

-- The bits of the end of instance k of task t join the flags of the task.
abbrev pub TellsMark : (t k : ℕ) → Tells
TellsMark t k step m found n = IsNow m (settled m.0 (Flag t k) (Count t k ∷ [])) n × IsSoundNow m n

-- Instance k of task t is counted off it.
abbrev pub TellsCount : (t k : ℕ) → Tells
TellsCount t k step m found n =
    IsNow m (settled m.0 (Count t k) (cond (found == 1) (Close t ∷ []) [])) n × IsSoundNow m n

-- A load of the flags of task t, whose instances are all counted.
abbrev pub TellsFlags : (t : ℕ) → Tells
TellsFlags t step m found n =
    IsNow m (settled m.0 (Close t) (told_first m.0.opening t)) n × IsSoundNow m n
    × (outcome_of_flags found ≡ outcome_of m.0.opening t)

-- The bits of a dependency join the state of the successor at place e, which task t is told to next.
abbrev pub TellsMarkEdge : (t : ℕ) → (o : Outcome) → (e : ℕ) → Tells
TellsMarkEdge t o e step m found n =
    IsNow m (settled m.0 (Tell t o e false) (Tell t o e true ∷ [])) n × IsSoundNow m n

-- The dependency is counted off that successor.
abbrev pub TellsCountEdge : (t : ℕ) → (o : Outcome) → (e : ℕ) → Tells
TellsCountEdge t o e step m found n =
    let u = slice_index ((graph_in m.0.opening).successors t) e in
    IsNow m (settled m.0 (Tell t o e true) (told_on m.0.opening t o e u (found == 1))) n × IsSoundNow m n

-- A load of the state of task t, whose dependencies are all counted.
abbrev pub TellsState : (t : ℕ) → Tells
TellsState t step m found n =
    IsNow m (settled m.0 (Decide t) (decided m.0.opening t)) n × IsSoundNow m n
    × SaysDecision m.0.opening t found

-- Task t is armed.
abbrev pub TellsArm : (t : ℕ) → Tells
TellsArm t step m found n =
    IsNow m (armed_now m.0 t) n × IsSoundNow m n × (slice_index m.0.found t ≡ 0)
