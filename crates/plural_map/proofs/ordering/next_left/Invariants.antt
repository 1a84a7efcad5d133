use Rattle.std.proofs.Common.{◌≡◌, ◌<◌, ℕ, false, not, ◌&&◌, length}
use Rattle.plural_map.specs.Value.{task_of}
use Rattle.plural_map.specs.Order.{is_among}
use Rattle.plural_map.specs.Cycle.{depends_on}
use Rattle.plural_map.proofs.ordering.next_left.Given as goal

abbrev pub invariant-loop-u : goal.invariant-loop-u
invariant-loop-u l = record {
  before : (u : ℕ) → u < l.u → (not (is_among u l.reached) && depends_on (task_of l.tasks l.t) u) ≡ false;
  task_is : l.task ≡ task_of l.tasks l.t;
  count : l.n ≡ length l.tasks;
}
