-- What each step keeps and tells. Each law is of words that meet the rule, and of one view of a seat (of the root, for
-- splits and joins); the other views may be any. (This project's own.)
use Rattle.std.specs.Prelude.{ℕ, ◌≡◌, ◌≢◌, ◌+◌, ◌-◌, ◌*◌, ◌^◌, ◌<◌, ◌≤◌, ◌==◌, false, true, cond, List, [], ◌∷◌, ◌++◌}
use Rattle.std.specs.Prelude.{length, drop, slice_get, slice_index, slice_set, Some}
use Rattle.std.specs.List.{Contains}
use Rattle.std.specs.Int.Bits.{bit_or}
use mathlib.Core.Option.{some}
use lib.ListN.{get_elem?}
use Rattle.plural_map.specs.declared.outcome.Outcome.{Outcome}
use Rattle.plural_order.specs.World.{value_at}
use Rattle.plural_order.specs.ProgramWorld.{IsOpening}
use Rattle.plural_order.specs.Sums.{sum_over, times}
use Rattle.plural_order.specs.TaskGraph.{decision_by}
use Rattle.plural_counters.specs.Counters.{IsSound}
use Rattle.plural_counters.specs.Steps.{tell_first, tell_next, on_decision}
use Rattle.plural_counters.specs.Laws.{outcome_of_flags, decision_of_state, outcome_of_counters}
use Rattle.plural_counters.specs.declared.duty.Duty.{Duty}
use Rattle.plural_counters.specs.declared.duty.Duty.TheVariants.{Flag, Count, Close, Tell, Decide, Arm}
use Rattle.plural_rule.specs.Opening.{Opening, IsInstance, HasSerialRun, MayRead, world_in, graph_in, stores_of}
use Rattle.plural_rule.specs.Opening.{record_of, ends_of, edges_of}
use Rattle.plural_rule.specs.Opening.{outcome_of, task_count, quota_of}
use Rattle.plural_rule.specs.Layout.{word_count, clock_at, alloc_at, done_at, field_at, flags_at, left_at, state_at}
use Rattle.plural_rule.specs.Layout.{open_deps_at}
use Rattle.plural_rule.specs.Stages.{noted_of}
use Rattle.plural_rule.specs.Rule.{field_of}
use Rattle.plural_rule.specs.Steps.{looked, lost, took, began, did_read, stored, ended, did_note, finished, gives_way}
use Rattle.plural_rule.specs.Steps.{armed, root_after, new_seat, joined, spent, first_view}
use Rattle.plural_rule.specs.Content.{Content, content}
use Rattle.plural_rule.specs.First.{first_words}
use Rattle.plural_rule.specs.Last.{KnowsWhole, HasTold, done_count, tickets_drawn, IsLast}
use Rattle.plural_rule.specs.Kept.{Kept, duties, counters}
use Rattle.plural_rule.specs.declared.view.View.{View}
use Rattle.plural_rule.specs.declared.view.Stage.TheVariants.{Free, Got, Begun, Ended}
use Rattle.plural_rule.specs.declared.view.Role.TheVariants.{Seat, Root}

-- What holds of every seat: of words that meet the rule, with the view v of core number `core` at a place of the
-- views.
abbrev pub OfSeat : (Opening → List ℕ → List View → ℕ → View → ℕ → Type 0) → Type 0
OfSeat P = (o : Opening) (words : List ℕ) (views : List View) (id : ℕ) (v : View) (core : ℕ) → Kept o words views
    → get_elem? views id ≡ some v → v.role ≡ Seat core → P o words views id v core

-- What the words say.
abbrev pub says : Opening → List ℕ → Content
says o words = content o.program words

-- The rule is kept if word i becomes x and the view at a place becomes w.
abbrev pub KeptAfter : Opening → List ℕ → (i x : ℕ) → List View → (id : ℕ) → (w : View) → Type 0
KeptAfter o words i x views id w = Kept o (slice_set words i x) (slice_set views id w)

-- ---- claiming

-- A load of the alloc word of task t finds no less than the view had found, and no more than its instances allow.
pub record IsLook (o : Opening) (words : List ℕ) (views : List View) (id : ℕ) (v : View) (t : ℕ) : Type 0 where
  pub kept : Kept o words (slice_set views id (looked v t ((says o words).alloc t)))
  pub rose : slice_index v.found t ≤ (says o words).alloc t
  pub few : (says o words).alloc t ≤ 1 + quota_of o.program t

-- So it is of each load of an alloc word.
abbrev pub LoadsAlloc : Type 0
LoadsAlloc = OfSeat (λ o words views id v core. (t : ℕ) → t < task_count o.program → IsLook o words views id v t)

-- An exchange of the alloc word from n to n + 1, by a free seat, hands out instance n - 1 if it finds n.
abbrev pub TakesInstance : Type 0
TakesInstance = OfSeat (λ o words views id v core. (t n : ℕ) → t < task_count o.program → v.stage ≡ Free → 1 ≤ n
    → n ≤ quota_of o.program t → (says o words).alloc t ≡ n
    → KeptAfter o words (alloc_at o.program t) (n + 1) views id (took v t n))

-- It finds more than n if it doesn't find the n that the view had found.
pub record IsLoss (o : Opening) (words : List ℕ) (views : List View) (id : ℕ) (v : View) (t n : ℕ) : Type 0 where
  pub kept : Kept o words (slice_set views id (lost v t ((says o words).alloc t)))
  pub more : n < (says o words).alloc t
  pub few : (says o words).alloc t ≤ 1 + quota_of o.program t

-- So it is of each such exchange.
abbrev pub LosesInstance : Type 0
LosesInstance = OfSeat (λ o words views id v core. (t n : ℕ) → t < task_count o.program → slice_index v.found t ≡ n
    → (says o words).alloc t ≢ n → IsLoss o words views id v t n)

-- ---- an instance

-- The clock rises by one, and is far from its end.
pub record IsTick (o : Opening) (words : List ℕ) (views : List View) (id : ℕ) (w : View) : Type 0 where
  pub kept : KeptAfter o words (clock_at o.program) ((says o words).clock + 1) views id w
  pub low : (says o words).clock ≤ 131072

-- An instance begins at the ticket that the clock has.
abbrev pub BeginsInstance : Type 0
BeginsInstance = OfSeat (λ o words views id v core. (t k : ℕ) → v.stage ≡ Got t k
    → IsTick o words views id (began v (says o words).clock))

-- A load of a word of the memory finds a word of 32 bits, and, if the instance may read it, that of the serial run
-- after the stores that it has made.
pub record IsRead (o : Opening) (words : List ℕ) (views : List View) (id : ℕ) (v : View) (a : ℕ) : Type 0 where
  pub kept : Kept o words (slice_set views id (did_read v))
  pub narrow : slice_index words a < 2 ^ 32
  pub value : (t k start made reads : ℕ) → v.stage ≡ Begun t k start made reads → MayRead o t k a
      → slice_index words a ≡ slice_index (value_at (world_in o) (t, k) made) a

-- So it is of each load of a word of the memory.
abbrev pub LoadsMemory : Type 0
LoadsMemory = OfSeat (λ o words views id v core. (a : ℕ) → a < o.program.map.words → IsRead o words views id v a)

-- The next store of an instance, of a word of 32 bits, is to a word of the memory.
pub record IsWrite (o : Opening) (words : List ℕ) (views : List View) (id : ℕ) (v : View) (a x : ℕ) : Type 0 where
  pub kept : KeptAfter o words a x views id (stored v)
  pub inside : a < o.program.map.words

-- So it is of each store that is the next one of its instance.
abbrev pub StoresMemory : Type 0
StoresMemory = OfSeat (λ o words views id v core. (t k start made reads a x : ℕ) (rest : List (ℕ × ℕ))
    → v.stage ≡ Begun t k start made reads → drop made (stores_of o t k) ≡ (a, x) ∷ rest → x < 2 ^ 32
    → IsWrite o words views id v a x)

-- An instance that has made all its stores ends at the ticket that the clock has.
abbrev pub EndsInstance : Type 0
EndsInstance = OfSeat (λ o words views id v core. (t k start made reads : ℕ) → v.stage ≡ Begun t k start made reads
    → made ≡ length (stores_of o t k) → IsTick o words views id (ended v (says o words).clock))

-- A field of the record of an ended instance is noted.
abbrev pub NotesField : Type 0
NotesField = OfSeat (λ o words views id v core. (t k start end reads : ℕ) (noted : List (ℕ × ℕ)) (f x : ℕ)
    → v.stage ≡ Ended t k start end reads noted → f < 7
    → KeptAfter o words (field_at o.program t k f) x views id (did_note v f x))

-- Every field of the record of instance (t, k) but the last is noted, with this start ticket and core.
pub record HasNoted (o : Opening) (t k start core : ℕ) (noted : List (ℕ × ℕ)) : Type 0 where
  pub each : (f : ℕ) → f < 7 → noted_of f noted ≡ Some (field_of (record_of o t k) start core f)

-- An ended instance whose record is noted is done.
abbrev pub FinishesInstance : Type 0
FinishesInstance = OfSeat (λ o words views id v core. (t k start end reads : ℕ) (noted : List (ℕ × ℕ))
    → v.stage ≡ Ended t k start end reads noted → HasNoted o t k start core noted
    → KeptAfter o words (done_at o.program t k) (1 + end) views id (finished v))

-- ---- settling: the view owes the duty that the step does, and the duties before and after it stay

-- The bits of an instance's end join the flags of its task.
abbrev pub MarksEnd : Type 0
MarksEnd = OfSeat (λ o words views id v core. (t k : ℕ) (first rest : List Duty) → v.owes ≡ first ++ Flag t k ∷ rest
    → KeptAfter o words (flags_at o.program t) (bit_or ((says o words).flags t) (ends_of o t k)) views id
    (gives_way v (Count t k ∷ []) (first ++ rest)))

-- An instance is counted: something was left of its task, and after the last one the task is to be closed.
pub record IsCount (o : Opening) (words : List ℕ) (views : List View) (id : ℕ) (v : View) (t : ℕ) (rest : List Duty)
    : Type 0 where
  pub some_left : 1 ≤ (says o words).left t
  pub kept : KeptAfter o words (left_at o.program t) ((says o words).left t - 1) views id
      (gives_way v (cond ((says o words).left t == 1) (Close t ∷ []) []) rest)

-- So it is of each instance that the view owes to count.
abbrev pub CountsInstance : Type 0
CountsInstance = OfSeat (λ o words views id v core. (t k : ℕ) (first rest : List Duty)
    → v.owes ≡ first ++ Count t k ∷ rest → IsCount o words views id v t (first ++ rest))

-- The flags of a task to be closed say its outcome in the serial run, with which it begins to be told.
pub record IsClose (o : Opening) (words : List ℕ) (views : List View) (id : ℕ) (v : View) (t : ℕ) (rest : List Duty)
    : Type 0 where
  pub outcome : outcome_of_flags ((says o words).flags t) ≡ outcome_of o t
  pub kept : Kept o words
      (slice_set views id (gives_way v (tell_first ((graph_in o).successors t) t (outcome_of o t)) rest))

-- So it is of each task that the view owes to close.
abbrev pub LoadsFlags : Type 0
LoadsFlags = OfSeat (λ o words views id v core. (t : ℕ) (first rest : List Duty) → v.owes ≡ first ++ Close t ∷ rest
    → IsClose o words views id v t (first ++ rest))

-- The bits of the next dependency on a task that is told join the state of its successor.
abbrev pub MarksDependency : Type 0
MarksDependency = OfSeat (λ o words views id v core. (t : ℕ) (outcome : Outcome) (e u : ℕ) (first rest : List Duty)
    → v.owes ≡ first ++ Tell t outcome e false ∷ rest → slice_get ((graph_in o).successors t) e ≡ Some u
    → KeptAfter o words (state_at o.program u) (bit_or ((says o words).state u) (edges_of o t u)) views id
    (gives_way v (Tell t outcome e true ∷ []) (first ++ rest)))

-- A dependency is counted: some of its successor's was open, and after the last one the successor is to be decided.
pub record IsDependency (o : Opening) (words : List ℕ) (views : List View) (id : ℕ) (v : View) (t : ℕ)
    (outcome : Outcome) (e u : ℕ) (rest : List Duty) : Type 0 where
  pub some_open : 1 ≤ (says o words).open_deps u
  pub kept : KeptAfter o words (open_deps_at o.program u) ((says o words).open_deps u - 1) views id
      (gives_way v (cond ((says o words).open_deps u == 1) (Decide u ∷ []) []
      ++ tell_next ((graph_in o).successors t) t outcome e) rest)

-- So it is of each dependency that the view owes to count.
abbrev pub CountsDependency : Type 0
CountsDependency = OfSeat (λ o words views id v core. (t : ℕ) (outcome : Outcome) (e u : ℕ) (first rest : List Duty)
    → v.owes ≡ first ++ Tell t outcome e true ∷ rest → slice_get ((graph_in o).successors t) e ≡ Some u
    → IsDependency o words views id v t outcome e u (first ++ rest))

-- The state of a task to be decided says what is decided of it in the serial run.
pub record IsDecision (o : Opening) (words : List ℕ) (views : List View) (id : ℕ) (v : View) (u : ℕ) (rest : List Duty)
    : Type 0 where
  pub decision : decision_of_state (graph_in o) u ((says o words).state u) ≡ decision_by (graph_in o) u
  pub kept : Kept o words
      (slice_set views id (gives_way v (on_decision (graph_in o) u (decision_by (graph_in o) u)) rest))

-- So it is of each task that the view owes to decide.
abbrev pub LoadsState : Type 0
LoadsState = OfSeat (λ o words views id v core. (u : ℕ) (first rest : List Duty) → v.owes ≡ first ++ Decide u ∷ rest
    → IsDecision o words views id v u (first ++ rest))

-- A task to be armed wasn't.
pub record IsArming (o : Opening) (words : List ℕ) (views : List View) (id : ℕ) (v : View) (t : ℕ) (rest : List Duty)
    : Type 0 where
  pub unarmed : slice_index v.found t ≡ 0
  pub kept : KeptAfter o words (alloc_at o.program t) 1 views id (armed v t rest)

-- So it is of each task that the view owes to arm.
abbrev pub ArmsTask : Type 0
ArmsTask = OfSeat (λ o words views id v core. (t : ℕ) (first rest : List Duty) → v.owes ≡ first ++ Arm t ∷ rest
    → IsArming o words views id v t (first ++ rest))

-- The duties of each view are sound: they are of the graph, and the tasks of those that say a phase differ.
abbrev pub DutiesSound : Type 0
DutiesSound = (o : Opening) (words : List ℕ) (views : List View) (id : ℕ) (v : View) → Kept o words views
    → get_elem? views id ≡ some v → IsSound (graph_in o) (duties v)

-- The clock is twice the number of done instances, plus 1 for each that is begun and 2 for each that is ended.
abbrev pub ClockCounts : Type 0
ClockCounts = (o : Opening) (words : List ℕ) (views : List View) → Kept o words views
    → (says o words).clock ≡ 2 * done_count o (says o words) + sum_over (λ v. tickets_drawn v.stage) views

-- ---- seats

-- The root sends out a seat with a core number that isn't out.
abbrev pub SplitsSeat : Type 0
SplitsSeat = (o : Opening) (words : List ℕ) (views : List View) (v : View) (outs : List ℕ) (core : ℕ)
    → Kept o words views → get_elem? views 0 ≡ some v → v.role ≡ Root outs → times core outs ≡ 0 → core < o.cores
    → Kept o words (slice_set views 0 (root_after v core) ++ new_seat v core ∷ [])

-- A free seat that owes nothing comes back; nothing of it is left but a spent view, of any opening.
abbrev pub JoinsSeat : Type 0
JoinsSeat = (o : Opening) (words : List ℕ) (views : List View) (other : ℕ) (v s : View) (outs : List ℕ) (core : ℕ)
    (left : Opening) → Kept o words views → get_elem? views 0 ≡ some v → other ≢ 0 → get_elem? views other ≡ some s
    → v.role ≡ Root outs → s.role ≡ Seat core → s.stage ≡ Free → s.owes ≡ []
    → Kept o words (slice_set (slice_set views 0 (joined v s)) other (spent left))

-- ---- the first words and the last

-- The first words of a program whose map has no clash, over an image of its length with words of 32 bits, meet the
-- rule with the root alone.
abbrev pub OpensWords : Type 0
OpensWords = (o : Opening) → IsOpening o.program o.image
    → ((a : ℕ) → a < o.program.map.words → slice_index o.image a < 2 ^ 32)
    → Kept o (first_words o.program o.image) (first_view o ∷ [])

-- If no seat is out and the root knows each task that it knows as armed as wholly handed out, it has told each task.
abbrev pub AllTold : Type 0
AllTold = (o : Opening) (words : List ℕ) (views : List View) (v : View) → Kept o words views
    → get_elem? views 0 ≡ some v → v.role ≡ Root [] → KnowsWhole o v → HasTold o v

-- A task that a view has told was told its outcome in the serial run, and its counters say it.
pub record IsToldAsRun (o : Opening) (words : List ℕ) (t : ℕ) (told : Outcome) : Type 0 where
  pub task : t < task_count o.program
  pub outcome : told ≡ outcome_of o t
  pub counters : outcome_of_counters (counters (says o words)) t ≡ outcome_of o t

-- So it is of each task that a view has told.
abbrev pub ToldOutcome : Type 0
ToldOutcome = (o : Opening) (words : List ℕ) (views : List View) (id : ℕ) (v : View) (t : ℕ) (told : Outcome)
    → Kept o words views → get_elem? views id ≡ some v → Contains v.told (t, told) → IsToldAsRun o words t told

-- If no seat is out and the root has told each task, the words are the last ones.
abbrev pub ClosesWords : Type 0
ClosesWords = (o : Opening) (words : List ℕ) (views : List View) (v : View) → Kept o words views
    → get_elem? views 0 ≡ some v → v.role ≡ Root [] → HasTold o v → IsLast o (says o words)

-- ---- places

-- Each word of the memory, of a record and of a task is one of the words, and so is the clock. There are at most
-- 1,574,145 words, and at most 65,536 instances of a task.
pub record HasPlaces (o : Opening) : Type 0 where
  pub few : word_count o.program ≤ 1574145
  pub quotas : (t : ℕ) → t < task_count o.program → quota_of o.program t ≤ 65536
  pub mem : (a : ℕ) → a < o.program.map.words → a < word_count o.program
  pub fields : (t k f : ℕ) → IsInstance o.program t k → f < 8 → field_at o.program t k f < word_count o.program
  pub alloc : (t : ℕ) → t < task_count o.program → alloc_at o.program t < word_count o.program
  pub flags : (t : ℕ) → t < task_count o.program → flags_at o.program t < word_count o.program
  pub left : (t : ℕ) → t < task_count o.program → left_at o.program t < word_count o.program
  pub state : (t : ℕ) → t < task_count o.program → state_at o.program t < word_count o.program
  pub open_deps : (t : ℕ) → t < task_count o.program → open_deps_at o.program t < word_count o.program
  pub clock : clock_at o.program < word_count o.program

-- So it is of every opening that has a serial run, and so of every one whose words meet the rule.
abbrev pub PlacesWithin : Type 0
PlacesWithin = (o : Opening) → HasSerialRun o → HasPlaces o
