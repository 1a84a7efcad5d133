-- The rule: what the words are by all views, in seven parts; its last definition names them. (This project's own.)
use Rattle.std.specs.Prelude.{ℕ, ◌≡◌, ◌+◌, ◌-◌, ◌*◌, ◌<◌, ◌≤◌, ◌⊎◌, zero, suc, List, [], length, slice_index}
use Rattle.std.specs.Prelude.{cond, ◌==◌, Bool, nat_lt, Some}
use mathlib.Core.Option.{some}
use lib.ListN.{get_elem?}
use Rattle.plural_serial.specs.declared.record_.Record.{Record}
use Rattle.plural_serial.specs.Program.{task_at}
use Rattle.plural_serial.specs.Instances.{Inst as Instance}
use Rattle.plural_trace.specs.RecordWords.{end_word}
use Rattle.plural_order.specs.World.{value_at}
use Rattle.plural_order.specs.Laws.{value_now}
use Rattle.plural_order.specs.Sums.{sum_over, sum_below, one_if, sign, times}
use Rattle.plural_rule.specs.Opening.{Opening, HasSerialRun, IsInstance, Runs, MayWrite, MayRead, Before, world_in}
use Rattle.plural_rule.specs.Opening.{record_of, stores_of, task_count, quota_of}
use Rattle.plural_rule.specs.Content.{Content, start_in, core_in}
use Rattle.plural_rule.specs.Stages.{holds, has_begun, tickets_to_draw, drawn, StartsAt, IsStage, noted_of, is_seat}
use Rattle.plural_rule.specs.declared.view.View.{View}
use Rattle.plural_rule.specs.declared.view.Stage.{Stage}
use Rattle.plural_rule.specs.declared.view.Stage.TheVariants.{Free, Got, Begun, Ended}
use Rattle.plural_rule.specs.declared.view.Role.{Role}
use Rattle.plural_rule.specs.declared.view.Role.TheVariants.{Seat, Root, Spent}

-- Each view is so.
abbrev pub Each : (View → Type 0) → List View → Type 0
Each P views = (id : ℕ) (v : View) → get_elem? views id ≡ some v → P v

-- ---- what a view is

-- The view is of this opening, with three numbers for each task: found, looks and losses.
pub record IsViewOf (o : Opening) (v : View) : Type 0 where
  pub opening : v.opening ≡ o
  pub found : length v.found ≡ task_count o.program
  pub looks : length v.looks ≡ task_count o.program
  pub losses : length v.losses ≡ task_count o.program

-- The views of the root and of seats are of this opening, and a seat's core number is below that of cores. The root
-- and a spent view hold nothing, and a spent view has found nothing.
abbrev pub IsRole : Opening → View → Role → Type 0
IsRole o v (Seat c) = IsViewOf o v × (c < o.cores)
IsRole o v (Root outs) = IsViewOf o v × (v.stage ≡ Free)
IsRole o v Spent = (v.found ≡ []) × (v.stage ≡ Free)

-- The view is what its role says, and its stage is one.
pub record IsView (o : Opening) (clock : ℕ) (v : View) : Type 0 where
  pub role : IsRole o v v.role
  pub stage : IsStage o clock v.stage

-- ---- 1: tasks run in turn

-- All instances of task t run, and those of the tasks before it that run are done.
pub record IsArmed (o : Opening) (done : (t k : ℕ) → ℕ) (t : ℕ) : Type 0 where
  pub runs : (k : ℕ) → k < quota_of o.program t → Runs o t k
  pub past : (u l : ℕ) → Runs o u l → Before o u t → 0 < done u l

-- No task has handed out more instances than it has, and each that is armed may run.
pub record TasksInTurn (o : Opening) (c : Content) : Type 0 where
  pub few : (t : ℕ) → t < task_count o.program → c.alloc t ≤ 1 + quota_of o.program t
  pub armed : (t : ℕ) → t < task_count o.program → 1 ≤ c.alloc t → IsArmed o c.done t

-- ---- 2: each instance is held once

-- 1 if an alloc word of n says that instance k was handed out, else 0.
abbrev pub handed : (n k : ℕ) → ℕ
handed n k = cond (nat_lt (k + 1) n) 1 0

-- Each instance that was handed out is done or held by one view, and not both. What is held or done was handed out.
abbrev pub HeldOnce : Opening → Content → List View → Type 0
HeldOnce o c views = (t k : ℕ) → IsInstance o.program t k
    → sum_over (λ v. holds v.stage t k) views + sign (c.done t k) ≡ handed (c.alloc t) k

-- ---- 3: what was found

-- No view has found more than there is; some view has found each task that is armed; and each view that has a number
-- for it has found each task without dependencies.
pub record IsFound (o : Opening) (c : Content) (views : List View) : Type 0 where
  pub most : Each (λ v. (t : ℕ) → t < task_count o.program → slice_index v.found t ≤ c.alloc t) views
  pub some : (t : ℕ) → t < task_count o.program → 1 ≤ c.alloc t → 1 ≤ sum_over (λ v. slice_index v.found t) views
  pub roots : Each (λ v. (t : ℕ) → t < task_count o.program → t < length v.found
      → length (task_at o.program t).deps ≡ 0 → 1 ≤ slice_index v.found t) views

-- ---- 4: seats

-- The root's list has the core number of each seat that is out once, and no other number.
abbrev pub HasSeats : List View → Role → Type 0
HasSeats views (Seat c) = ⊥
HasSeats views (Root outs) =
    (c : ℕ) → (sum_over (λ v. is_seat c v.role) views ≡ times c outs) × (times c outs ≤ 1)
HasSeats views Spent = ⊥

-- The root and a spent view owe nothing; a spent view has told nothing.
abbrev pub OwesAsRole : View → Role → Type 0
OwesAsRole v (Seat c) = Unit {0}
OwesAsRole v (Root outs) = v.owes ≡ []
OwesAsRole v Spent = (v.owes ≡ []) × (v.told ≡ [])

-- The first view is the root's, and it alone.
pub record SeatsOut (views : List View) : Type 0 where
  pub first : (v : View) → get_elem? views 0 ≡ some v → HasSeats views v.role
  pub lone : (id : ℕ) (v : View) (outs : List ℕ) → get_elem? views id ≡ some v → v.role ≡ Root outs → id ≡ 0
  pub owes : Each (λ v. OwesAsRole v v.role) views

-- ---- 5: tickets

-- How often a done instance has ticket x, by its start and its done word.
abbrev pub done_drawn : (x start done : ℕ) → ℕ
done_drawn x start done = cond (done == 0) 0 (one_if start x + one_if (done - 1) x)

-- How often done instances have ticket x, in all.
abbrev pub all_done_drawn : Opening → Content → (x : ℕ) → ℕ
all_done_drawn o c x =
    sum_below (λ t. sum_below (λ k. done_drawn x (start_in c t k) (c.done t k)) (quota_of o.program t))
    (task_count o.program)

-- Of done instances: each started before it ended; if a task comes before another, each of the one had ended when one
-- of the other started; of two of one core one had ended when the other started.
pub record DoneInTurn (o : Opening) (c : Content) : Type 0 where
  pub own : (t k : ℕ) → IsInstance o.program t k → 0 < c.done t k → start_in c t k + 1 < c.done t k
  pub turn : (t k u l : ℕ) → IsInstance o.program t k → IsInstance o.program u l → Runs o t k → Before o t u
      → 0 < c.done t k → 0 < c.done u l → c.done t k ≤ start_in c u l
  pub line : (t k u l : ℕ) → IsInstance o.program t k → IsInstance o.program u l → (t ≡ u → k ≡ l → ⊥)
      → 0 < c.done t k → 0 < c.done u l → core_in c t k ≡ core_in c u l
      → (c.done t k ≤ start_in c u l) ⊎ (c.done u l ≤ start_in c t k)

-- Of an instance that a view has begun: each done one of a task before its own had ended when it started, and so had
-- each done one of the view's core.
pub record BegunInTurn (o : Opening) (c : Content) (v : View) : Type 0 where
  pub turn : (t k u l s : ℕ) → IsInstance o.program t k → Runs o t k → Before o t u → 0 < c.done t k
      → StartsAt v.stage u l s → c.done t k ≤ s
  pub line : (t k u l s : ℕ) → IsInstance o.program t k → 0 < c.done t k → StartsAt v.stage u l s
      → v.role ≡ Seat (core_in c t k) → c.done t k ≤ s

-- The clock and the tickets still to be drawn are two for each instance that was handed out. Each ticket below the
-- clock was drawn once, by an instance that is done or held, and no other was. Done and begun instances are in turn.
pub record TicketsInTurn (o : Opening) (c : Content) (views : List View) : Type 0 where
  pub count : c.clock + sum_over (λ v. tickets_to_draw v.stage) views
      ≡ 2 * sum_below (λ t. c.alloc t - 1) (task_count o.program)
  pub once : (x : ℕ) → sum_over (λ v. drawn x v.stage) views + all_done_drawn o c x ≡ cond (nat_lt x c.clock) 1 0
  pub ended : DoneInTurn o c
  pub begun : Each (BegunInTurn o c) views

-- ---- 6: records

-- The value of field f of a record with this start ticket and core.
abbrev pub field_of : Record → (start core f : ℕ) → ℕ
field_of r start core zero = end_word r.«end»
field_of r start core (suc zero) = r.instructions
field_of r start core (suc (suc zero)) = r.loads
field_of r start core (suc (suc (suc zero))) = r.misses
field_of r start core (suc (suc (suc (suc zero)))) = r.stores
field_of r start core (suc (suc (suc (suc (suc zero))))) = start
field_of r start core (suc (suc (suc (suc (suc (suc f)))))) = core

-- The fields that a view has noted of an ended instance are what it noted.
abbrev pub IsNoted : Opening → Content → View → Type 0
IsNoted o c v = (t k start end reads : ℕ) (noted : List (ℕ × ℕ)) (f x : ℕ) → IsInstance o.program t k
    → v.stage ≡ Ended t k start end reads noted → f < 7 → noted_of f noted ≡ Some x → c.field t k f ≡ x

-- The fields of a done instance are those of its record in the serial run, and its core is one of the cores. What
-- views noted stands there.
pub record RecordsAsRun (o : Opening) (c : Content) (views : List View) : Type 0 where
  pub own : (t k f : ℕ) → IsInstance o.program t k → 0 < c.done t k → f < 5
      → c.field t k f ≡ field_of (record_of o t k) 0 0 f
  pub core : (t k : ℕ) → IsInstance o.program t k → 0 < c.done t k → core_in c t k < o.cores
  pub noted : Each (IsNoted o c) views

-- ---- 7: values

-- Instance i is done, as a test.
abbrev pub is_done : (done : (t k : ℕ) → ℕ) → Instance → Bool
is_done done i = nat_lt 0 (done i.0 i.1)

-- No instance that may write word a is begun and not done.
abbrev pub NoWriter : Opening → List View → (a : ℕ) → Type 0
NoWriter o views a = (t k : ℕ) → Runs o t k → MayWrite o t k a → sum_over (λ v. has_begun v.stage t k) views ≡ 0

-- Each word of the memory that an instance under way may read has the value that it has for it in the serial run,
-- after the stores that it has made.
abbrev pub LivesAsRun : Opening → (mem : (a : ℕ) → ℕ) → Stage → Type 0
LivesAsRun o mem Free = Unit {0}
LivesAsRun o mem (Got t k) = Unit {0}
LivesAsRun o mem (Begun t k start made reads) = (a : ℕ) → a < o.program.map.words → MayRead o t k a
    → mem a ≡ slice_index (value_at (world_in o) (t, k) made) a
LivesAsRun o mem (Ended t k start end reads noted) = (a : ℕ) → a < o.program.map.words → MayRead o t k a
    → mem a ≡ slice_index (value_at (world_in o) (t, k) (length (stores_of o t k))) a

-- A word of which no writer is under way has the value of its last done writer in the serial order, or the opening
-- one. Each view's instance under way lives as in the serial run.
pub record ValuesAsRun (o : Opening) (c : Content) (views : List View) : Type 0 where
  pub rest : (a : ℕ) → a < o.program.map.words → NoWriter o views a
      → c.mem a ≡ value_now (world_in o) (is_done c.done) a
  pub lives : Each (λ v. LivesAsRun o c.mem v.stage) views

-- ---- the rule

-- What the words say is so by the views: for an opening that has a serial run, and views of it. The counters of tasks
-- (flags, left, state, open) and the duties of views have a rule of their own, which says the rest of parts 1 and 3.
pub record Rule (o : Opening) (c : Content) (views : List View) : Type 0 where
  pub run : HasSerialRun o
  pub known : Each (IsView o c.clock) views
  -- 1: tasks run in turn.
  pub tasks : TasksInTurn o c
  -- 2: each instance is held once.
  pub held : HeldOnce o c views
  -- 3: what was found is so.
  pub found : IsFound o c views
  -- 4: the seats that are out are those that the root knows.
  pub seats : SeatsOut views
  -- 5: tickets are drawn once and in turn.
  pub tickets : TicketsInTurn o c views
  -- 6: the records are those of the serial run.
  pub records : RecordsAsRun o c views
  -- 7: the values are those of the serial run.
  pub values : ValuesAsRun o c views
