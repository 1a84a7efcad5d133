use Rattle.plural_cores.specs.Later.{IsLater}
use Rattle.plural_cores.specs.Works.{IsAtWork, turns_left}
use Rattle.plural_cores.proofs.work.Work.until_left.Given as goal

abbrev pub invariant-loop : goal.invariant-loop
invariant-loop g l = record {
  work : IsAtWork l.words l.seat l.self;
  later : IsLater l.fn.seat l.seat;
}

abbrev pub decreases-loop : goal.decreases-loop
decreases-loop g l = turns_left l.words.opening l.seat l.self
