use Rattle.plural_words.specs.Seen.{IsSeatOf}
use Rattle.plural_cores.specs.Sweeps.{HasTried, IsWhole}
use Rattle.plural_cores.proofs.sweep.try_all.Given as goal

abbrev pub invariant-loop-t : goal.invariant-loop-t
invariant-loop-t l = record {
  seat : IsSeatOf l.words l.seat;
  tried : HasTried l.words.opening l.t l.fn.seat l.seat;
  whole : IsWhole l.words.opening l.t l.whole l.fn.seat.view l.seat.view;
}
