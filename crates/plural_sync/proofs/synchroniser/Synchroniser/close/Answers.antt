use Rattle.std.proofs.Common.{arith}
use Rattle.plural_counters.proofs.SoundViews.{progress_bounded}
use Rattle.plural_rule.specs.Opening.{graph_in}
use Rattle.plural_rule.specs.Kept.{duties}
use Rattle.plural_sync.proofs.synchroniser.Synchroniser.close.Goals as goal

-- Each successor that is told leaves fewer steps.
pub loop-telling-smaller : goal.loop-telling-smaller
loop-telling-smaller c = omega (arith, c.tell_next.ensures.further, progress_bounded (graph_in c.args.words.now.opening) (duties c.tell_next.new.seat.view) c.tell_next.ensures.pending.sound)
