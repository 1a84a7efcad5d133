-- What each step on the counters keeps, and what holds of the rule.
use Rattle.std.specs.Prelude.{◌≡◌, ◌≢◌, ℕ, ◌+◌, ◌-◌, ◌<◌, ◌≤◌, ◌⊎◌, ◌==◌, true, false, cond, Some}
use Rattle.std.specs.Prelude.{List, [], ◌∷◌, ◌++◌, length, slice_get, slice_set, ⊤}
use Rattle.std.specs.List.{All, Contains}
use Rattle.std.specs.Int.{bit_at}
use Rattle.std.specs.Int.Bits.{bit_or}
use mathlib.Core.Option.{some}
use lib.ListN.{get_elem?}
use Rattle.plural_map.specs.declared.outcome.Outcome.{Outcome}
use Rattle.plural_map.specs.declared.outcome.Outcome.TheVariants as outcome
use Rattle.plural_map.specs.declared.outcome.Decision.{Decision}
use Rattle.plural_map.specs.declared.outcome.Decision.TheVariants as decision
use Rattle.plural_map.specs.Limits.{IsMap}
use Rattle.plural_serial.specs.Program.{ProgramValue}
use Rattle.plural_order.specs.Sums.{sum_below, sum_over}
use Rattle.plural_order.specs.TaskGraph.{TaskGraph, IsTaskGraph, outcome_by, decide_by, decision_by}
use Rattle.plural_order.specs.ProgramGraph.{graph_of}
use Rattle.plural_counters.specs.Duties.{phase_of, pending_of, phases_of, progress_of, MayRun, IsTold}
use Rattle.plural_counters.specs.Counters.{Counters, IsCounted, duties_of, Counted, IsSound, first_counters}
use Rattle.plural_counters.specs.Steps.{with_alloc, with_done, with_flags, with_left, with_state, with_open, IsSame}
use Rattle.plural_counters.specs.Steps.{Replaces, Keeps, tell_first, tell_next, on_decision}
use Rattle.plural_counters.specs.Steps.{as_duties, owed_in, told_in}
use Rattle.plural_counters.specs.declared.duty.Duty.{Duty}
use Rattle.plural_counters.specs.declared.duty.Duty.TheVariants.{Flag, Count, Close, Tell, Decide, Arm, Told}

-- ---- the steps, each over the duties l of all views

-- A step on another word that changes no duty keeps the rule.
abbrev pub Stays : Type 0
Stays = (g : TaskGraph) (c : Counters) (l : List Duty) → IsCounted g c l → Keeps g l [] [] c

-- To hand out an instance: alloc of an armed task rises.
abbrev pub HandsOut : Type 0
HandsOut = (g : TaskGraph) (c : Counters) (l : List Duty) (t n : ℕ) → IsCounted g c l → 1 ≤ c.alloc t
    → c.alloc t ≤ n → Keeps g l [] [] (with_alloc c t n)

-- To finish an instance that isn't done: it is done from now on, and is to be flagged.
abbrev pub Finishes : Type 0
Finishes = (g : TaskGraph) (c : Counters) (l : List Duty) (t k n : ℕ) → IsCounted g c l
    → t < g.tasks → k < g.quota t → c.done t k ≡ 0 → 1 ≤ n → Keeps g l [] (Flag t k ∷ []) (with_done c t k n)

-- To flag an instance: the bits of its end join its task's flags, and it is to be counted.
abbrev pub Marks : Type 0
Marks = (g : TaskGraph) (c : Counters) (l : List Duty) (t k : ℕ) → IsCounted g c l
    → Keeps g l (Flag t k ∷ []) (Count t k ∷ []) (with_flags c t (bit_or (c.flags t) (g.ends t k)))

-- Something is left of the task, and after one of its instances is counted there is one less; if it was the last, the
-- task is to be closed.
pub record IsCountedOff (g : TaskGraph) (c : Counters) (l : List Duty) (t k : ℕ) : Type 0 where
  pub some_left : 1 ≤ c.left t
  pub keeps : Keeps g l (Count t k ∷ []) (cond (c.left t == 1) (Close t ∷ []) []) (with_left c t (c.left t - 1))

-- So it is to count an instance of an armed task.
abbrev pub CountsOff : Type 0
CountsOff = (g : TaskGraph) (c : Counters) (l : List Duty) (t k : ℕ) → IsCounted g c l → Contains l (Count t k)
    → 1 ≤ c.alloc t → IsCountedOff g c l t k

-- The outcome that the flags of a task say.
abbrev pub outcome_of_flags : (flags : ℕ) → Outcome
outcome_of_flags flags = outcome_by (bit_at flags 1) (bit_at flags 0)

-- The flags of a task say its outcome, with which it begins to be told.
pub record IsClosed (g : TaskGraph) (c : Counters) (l : List Duty) (t : ℕ) : Type 0 where
  pub outcome : outcome_of_flags (c.flags t) ≡ g.outcome t
  pub keeps : Keeps g l (Close t ∷ []) (tell_first (g.successors t) t (g.outcome t)) c

-- So it is to close a task that may run.
abbrev pub LoadsFlags : Type 0
LoadsFlags = (g : TaskGraph) (c : Counters) (l : List Duty) (t : ℕ) → IsCounted g c l → Contains l (Close t)
    → MayRun g c.done t → IsClosed g c l t

-- To mark a dependency: its bits join the state of the successor at this place.
abbrev pub MarksEdge : Type 0
MarksEdge = (g : TaskGraph) (c : Counters) (l : List Duty) (t : ℕ) (o : Outcome) (e u : ℕ) → IsCounted g c l
    → slice_get (g.successors t) e ≡ Some u
    → Keeps g l (Tell t o e false ∷ []) (Tell t o e true ∷ []) (with_state c u (bit_or (c.state u) (g.edges t u)))

-- Some dependency of the successor u is open, and after one is counted there is one less; if it was the last, u is to
-- be decided; and task t is told to its next successor.
pub record IsEdgeCounted (g : TaskGraph) (c : Counters) (l : List Duty) (t : ℕ) (o : Outcome) (e u : ℕ)
    : Type 0 where
  pub task : u < g.tasks
  pub some_open : 1 ≤ c.open_deps u
  pub keeps : Keeps g l (Tell t o e true ∷ [])
      (cond (c.open_deps u == 1) (Decide u ∷ []) [] ++ tell_next (g.successors t) t o e)
      (with_open c u (c.open_deps u - 1))

-- So it is to count the dependency of the successor at this place.
abbrev pub CountsEdge : Type 0
CountsEdge = (g : TaskGraph) (c : Counters) (l : List Duty) (t : ℕ) (o : Outcome) (e u : ℕ) → IsCounted g c l
    → Contains l (Tell t o e true) → slice_get (g.successors t) e ≡ Some u → IsEdgeCounted g c l t o e u

-- What the state of a task says is decided of it.
abbrev pub decision_of_state : TaskGraph → (u state : ℕ) → Decision
decision_of_state g u state = decide_by (g.some u) (g.deps u) (bit_at state 0) (bit_at state 1) (bit_at state 2)

-- The state of a task says what is decided of it, and that becomes of it.
pub record IsDecided (g : TaskGraph) (c : Counters) (l : List Duty) (u : ℕ) : Type 0 where
  pub decision : decision_of_state g u (c.state u) ≡ decision_by g u
  pub keeps : Keeps g l (Decide u ∷ []) (on_decision g u (decision_by g u)) c

-- So it is to decide a task.
abbrev pub LoadsState : Type 0
LoadsState = (g : TaskGraph) (c : Counters) (l : List Duty) (u : ℕ) → IsCounted g c l → Contains l (Decide u)
    → IsDecided g c l u

-- A task wasn't armed and may run, and after it is armed nothing more is owed of it.
pub record IsArmed (g : TaskGraph) (c : Counters) (l : List Duty) (t : ℕ) : Type 0 where
  pub unarmed : c.alloc t ≡ 0
  pub may_run : MayRun g c.done t
  pub keeps : Keeps g l (Arm t ∷ []) [] (with_alloc c t 1)

-- So it is to arm a task of which nothing is done.
abbrev pub Arms : Type 0
Arms = (g : TaskGraph) (c : Counters) (l : List Duty) (t : ℕ) → IsCounted g c l → Contains l (Arm t)
    → ((k : ℕ) → k < g.quota t → c.done t k ≡ 0) → IsArmed g c l t

-- An instance that is to be flagged or counted is done, and it isn't both.
abbrev pub PendingDone : Type 0
PendingDone = (g : TaskGraph) (c : Counters) (l : List Duty) (t k : ℕ) → IsCounted g c l
    → Contains l (Flag t k) ⊎ Contains l (Count t k) → (1 ≤ c.done t k) × (sum_over (pending_of t k) l ≡ 1)

-- ---- views

-- If a view replaces the duties `old` by `new` and keeps its others, they are replaced in the duties of all views.
abbrev pub OneViewReplaces : Type 0 → Type 0
OneViewReplaces V = (duties : V → List Duty) (views : List V) (id : ℕ) (v w : V) (old new rest : List Duty)
    → get_elem? views id ≡ some v → duties v ≡ old ++ rest → duties w ≡ new ++ rest
    → Replaces (duties_of duties views) (duties_of duties (slice_set views id w)) old new

-- So it is for a view with two lists, of what it owes and of what it was told, that replaces one of its duties: what
-- it owes then in its place stands first, and what it is told stands first.
abbrev pub OneDutyReplaces : Type 0 → Type 0
OneDutyReplaces V = (duties : V → List Duty) (views : List V) (id : ℕ) (v w : V) (old : Duty)
    (new first rest : List Duty) (told : List (ℕ × Outcome)) → get_elem? views id ≡ some v
    → duties v ≡ (first ++ old ∷ rest) ++ as_duties told
    → duties w ≡ (owed_in new ++ (first ++ rest)) ++ as_duties (told_in new ++ told)
    → Replaces (duties_of duties views) (duties_of duties (slice_set views id w)) (old ∷ []) new

-- A view is split: one part has its duties, and the other, a view of its own, has none. No duty changes.
abbrev pub SplitKeepsDuties : Type 0 → Type 0
SplitKeepsDuties V = (duties : V → List Duty) (views : List V) (id : ℕ) (v left right : V)
    → get_elem? views id ≡ some v → duties left ≡ duties v → duties right ≡ []
    → Replaces (duties_of duties views) (duties_of duties (slice_set views id left ++ right ∷ [])) [] []

-- Two views are joined: one has the duties of both, and the other none. No duty changes.
abbrev pub JoinKeepsDuties : Type 0 → Type 0
JoinKeepsDuties V = (duties : V → List Duty) (views : List V) (id other : ℕ) (v w both spent : V)
    → get_elem? views id ≡ some v → other ≢ id → get_elem? (slice_set views id both) other ≡ some w
    → duties both ≡ duties v ++ duties w → duties spent ≡ []
    → Replaces (duties_of duties views) (duties_of duties (slice_set (slice_set views id both) other spent)) [] []

-- Under the rule the duties of each view are sound.
abbrev pub ViewsAreSound : Type 0 → Type 0
ViewsAreSound V = (duties : V → List Duty) (g : TaskGraph) (c : Counters) (views : List V) (id : ℕ) (v : V)
    → Counted duties g c views → get_elem? views id ≡ some v → IsSound g (duties v)

-- Sound duties say no more phases than there are tasks.
abbrev pub RoomForPhases : Type 0
RoomForPhases = (g : TaskGraph) (l : List Duty) → IsSound g l → sum_over phases_of l ≤ g.tasks

-- Their progress is at most one for each task and one for each of its successors.
abbrev pub ProgressBounded : Type 0
ProgressBounded = (g : TaskGraph) (l : List Duty) → IsSound g l
    → sum_over (progress_of g) l ≤ sum_below (λ t. length (g.successors t) + 1) g.tasks

-- ---- the first counters, and the last

-- The first counters of a graph, with a lone view that owes nothing and was told nothing, meet the rule.
abbrev pub FirstCounted : Type 0 → Type 0
FirstCounted V = (duties : V → List Duty) (g : TaskGraph) (d : Counters) (v : V) → IsTaskGraph g
    → IsSame g (first_counters g) d → duties v ≡ [] → Counted duties g d (v ∷ [])

-- So do those of each program within its limits.
abbrev pub ProgramCounted : Type 0
ProgramCounted = (p : ProgramValue) (m : List ℕ) → IsMap p.map
    → IsCounted (graph_of p m) (first_counters (graph_of p m)) []

-- A task was told, once, with its outcome in the graph.
pub record IsToldOnce (g : TaskGraph) (l : List Duty) (t : ℕ) : Type 0 where
  pub told : Contains l (Told t (g.outcome t))
  pub once : sum_over (phase_of t) l ≡ 1

-- If nothing is owed and each armed task is done, each task was told.
abbrev pub AllTold : Type 0
AllTold = (g : TaskGraph) (c : Counters) (l : List Duty) → IsCounted g c l → All IsTold l
    → ((t k : ℕ) → t < g.tasks → 1 ≤ c.alloc t → k < g.quota t → 0 < c.done t k)
    → (t : ℕ) → t < g.tasks → IsToldOnce g l t

-- ---- a task that was told

-- A task that was told is one of the graph, and was told its outcome.
pub record IsToldOutcome (g : TaskGraph) (t : ℕ) (o : Outcome) : Type 0 where
  pub task : t < g.tasks
  pub outcome : o ≡ g.outcome t

-- So it is of each task that was told.
abbrev pub ToldOutcome : Type 0
ToldOutcome = (g : TaskGraph) (c : Counters) (l : List Duty) (t : ℕ) (o : Outcome) → IsCounted g c l
    → Contains l (Told t o) → IsToldOutcome g t o

-- The outcome of a task that isn't to run, by its state: failed if a dependency is failed, else skipped.
abbrev pub outcome_of_state : (state : ℕ) → Outcome
outcome_of_state state = cond (bit_at state 0 == 0) outcome.Skipped outcome.Failed

-- The outcome that the counters of a task say: its flags if it was armed, else its state.
abbrev pub outcome_of_counters : Counters → (t : ℕ) → Outcome
outcome_of_counters c t = cond (c.alloc t == 0) (outcome_of_state (c.state t)) (outcome_of_flags (c.flags t))

-- All instances of a task run if it is armed, and none is done if it isn't.
pub record RunsAsArmed (g : TaskGraph) (c : Counters) (t : ℕ) : Type 0 where
  pub runs : 1 ≤ c.alloc t → (k : ℕ) → k < g.quota t → g.ran t k ≡ true
  pub undone : c.alloc t ≡ 0 → (k : ℕ) → k < g.quota t → c.done t k ≡ 0

-- The counters of a task that was told say its outcome.
abbrev pub CountersTell : Type 0
CountersTell = (g : TaskGraph) (c : Counters) (l : List Duty) (t : ℕ) (o : Outcome) → IsCounted g c l
    → Contains l (Told t o) → RunsAsArmed g c t → outcome_of_counters c t ≡ g.outcome t

-- ---- no law is empty

-- Some counters and duties meet the rule and a condition, and the duty is owed then.
abbrev pub CanBeOwed : TaskGraph → Duty → (Counters → Type 0) → Type 0
CanBeOwed g p Met = (c : Counters) × (l : List Duty) × IsCounted g c l × Contains l p × Met c

-- Each kind of duty can be owed in a graph, with what its step wants besides: of task 0, which runs and has task 1 as
-- its first successor, which is to run then; and in the end every task was told and nothing is owed.
pub record CanOweAll (g : TaskGraph) : Type 0 where
  pub flag : CanBeOwed g (Flag 0 0) (λ c. ⊤)
  pub count : CanBeOwed g (Count 0 0) (λ c. 1 ≤ c.alloc 0)
  pub close : CanBeOwed g (Close 0) (λ c. MayRun g c.done 0)
  pub tell : CanBeOwed g (Tell 0 (g.outcome 0) 0 false) (λ c. slice_get (g.successors 0) 0 ≡ Some 1)
  pub tell_marked : CanBeOwed g (Tell 0 (g.outcome 0) 0 true) (λ c. slice_get (g.successors 0) 0 ≡ Some 1)
  pub decide : CanBeOwed g (Decide 1) (λ c. decision_by g 1 ≡ decision.Run)
  pub arm : CanBeOwed g (Arm 1) (λ c. (k : ℕ) → k < g.quota 1 → c.done 1 k ≡ 0)
  pub told : CanBeOwed g (Told 0 (g.outcome 0)) (λ c. 1 ≤ c.alloc 1)
  pub ended : (c : Counters) × (l : List Duty) × IsCounted g c l × All IsTold l
      × ((t k : ℕ) → t < g.tasks → 1 ≤ c.alloc t → k < g.quota t → 0 < c.done t k)

-- There is such a graph.
abbrev pub EachDutyOwed : Type 0
EachDutyOwed = (g : TaskGraph) × CanOweAll g
