use Rattle.std.proofs.Common.{◌+◌, ◌-◌, [], length}
use Rattle.plural_order.specs.Sums.{sum_below}
use Rattle.plural_rule.specs.Opening.{graph_in}
use Rattle.plural_sync.specs.Deliveries.{IsKept}
use Rattle.plural_sync.specs.Pending.{IsPending, progress_in}
use Rattle.plural_sync.proofs.synchroniser.Synchroniser.close.Given as goal

abbrev pub invariant-loop-telling : goal.invariant-loop-telling
invariant-loop-telling l = record { pending : IsPending l.words l.seat [] l.pending.items; kept : IsKept l.fn.seat l.seat }

-- The steps that are left to tell all tasks to all their successors.
abbrev pub decreases-loop-telling : goal.decreases-loop-telling
decreases-loop-telling l = sum_below (λ t. length ((graph_in l.words.opening).successors t) + 1) (graph_in l.words.opening).tasks - progress_in l.words l.seat
