use Rattle.std.proofs.Common.{List, ℕ, length, ◌+◌}
use Rattle.plural_machine.specs.Drawn.{AreRising, AreStaying, AreTurns, drawn, drawn_first, all_turns_left}
use Rattle.plural_machine.specs.Together.{Each, IsSent}
use Rattle.plural_machine.proofs.drawn.advance_in_order.Given as goal

abbrev pub invariant-loop-rng : goal.invariant-loop-rng
invariant-loop-rng g l = record {
  rising : AreRising (length l.cores) l.staying.items;
  staying : (first : List ℕ) → Each (IsSent l.words first) l.initial.cores → AreStaying l.words first l.staying.items l.cores;
  turns : (n : ℕ) × AreTurns l.words n (drawn_first l.fn.seed l.initial.cores) (drawn l.rng l.staying.items l.cores);
}

abbrev pub decreases-loop-rng : goal.decreases-loop-rng
decreases-loop-rng g l = all_turns_left l.words.opening l.cores + length l.staying.items
