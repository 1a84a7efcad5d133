-- What the words say once nothing is left to do. (This project's own.)
use Rattle.std.specs.Prelude.{ℕ, ◌≡◌, ◌≤◌, ◌+◌, ◌*◌, ◌<◌, cond, nat_lt, slice_index}
use Rattle.std.specs.List.{Contains}
use Rattle.plural_order.specs.World.{run}
use Rattle.plural_order.specs.Sums.{sum_below, sign}
use Rattle.plural_rule.specs.Opening.{Opening, IsInstance, Runs, world_in, record_of, outcome_of, task_count, quota_of}
use Rattle.plural_rule.specs.Content.{Content, core_in}
use Rattle.plural_rule.specs.Rule.{DoneInTurn, all_done_drawn, field_of}
use Rattle.plural_rule.specs.declared.view.View.{View}
use Rattle.plural_rule.specs.declared.view.Stage.{Stage}
use Rattle.plural_rule.specs.declared.view.Stage.TheVariants.{Free, Got, Begun, Ended}

-- The view knows each task that it knows as armed as wholly handed out.
abbrev pub KnowsWhole : Opening → View → Type 0
KnowsWhole o v = (t : ℕ) → t < task_count o.program → 1 ≤ slice_index v.found t
    → slice_index v.found t ≡ 1 + quota_of o.program t

-- It has told each task its outcome in the serial run.
abbrev pub HasTold : Opening → View → Type 0
HasTold o v = (t : ℕ) → t < task_count o.program → Contains v.told (t, outcome_of o t)

-- How many instances are done.
abbrev pub done_count : Opening → Content → ℕ
done_count o c = sum_below (λ t. sum_below (λ k. sign (c.done t k)) (quota_of o.program t)) (task_count o.program)

-- How many tickets the instance of a stage has drawn.
abbrev pub tickets_drawn : Stage → ℕ
tickets_drawn Free = 0
tickets_drawn (Got t k) = 0
tickets_drawn (Begun t k start made reads) = 1
tickets_drawn (Ended t k start end reads noted) = 2

-- The memory is that of the serial run; exactly the instances of the serial run are done, each in turn, with its
-- record and a core that there is; the clock is twice their number, and each ticket below it, and no other, was drawn
-- once, by one of them.
pub record IsLast (o : Opening) (c : Content) : Type 0 where
  pub memory : (a : ℕ) → a < o.program.map.words
      → c.mem a ≡ slice_index (run (world_in o) (world_in o).image (world_in o).ran) a
  pub done : (t k : ℕ) → Runs o t k → 0 < c.done t k
  pub only : (t k : ℕ) → IsInstance o.program t k → 0 < c.done t k → Runs o t k
  pub in_turn : DoneInTurn o c
  pub records : (t k f : ℕ) → IsInstance o.program t k → 0 < c.done t k → f < 5
      → c.field t k f ≡ field_of (record_of o t k) 0 0 f
  pub cores : (t k : ℕ) → IsInstance o.program t k → 0 < c.done t k → core_in c t k < o.cores
  pub clock : c.clock ≡ 2 * done_count o c
  pub tickets : (x : ℕ) → all_done_drawn o c x ≡ cond (nat_lt x c.clock) 1 0
